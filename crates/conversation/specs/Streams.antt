-- The two streams of a conversation. Definitions with streams `before` and `after` say what was
-- read and written between these two moments.
use Rattle.std.specs.Prelude.{ℕ, List, Option}

-- what the two streams of a conversation hold at one moment: the bytes that the reader has left to
-- read, and the bytes that the writer holds; each of the two is `None` if it isn't known
pub record Streams : Type 0 where
  pub unread : Option (List ℕ)
  pub written : Option (List ℕ)

-- the streams at a moment: these bytes are left to read, and the writer holds these
abbrev pub streams : Option (List ℕ) → Option (List ℕ) → Streams
streams unread written = record { unread = unread; written = written }
