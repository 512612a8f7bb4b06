-- How much of a script was read, and how much may be read.
use Rattle.std.specs.Prelude.{ℕ, ◌≡◌, ◌<◌, ◌⊎◌, ⊤}
use Rattle.conversation.specs.declared.fault.StreamFault.{StreamFault}
use Rattle.conversation.specs.declared.fault.StreamFault.TheVariants.{Read, Write, TooLong, Memory}
use Rattle.conversation.specs.declared.limits.TheConstants.{MOST_READS, MOST_SCRIPT_BYTES}

-- the bytes of a script that were read, and the reads that were made for them; a read that was
-- interrupted counts, though it took no bytes
pub record Amount : Type 0 where
  pub bytes : ℕ
  pub reads : ℕ

-- before the first read
abbrev pub nothing : Amount
nothing = record { bytes = 0; reads = 0 }

-- one more read may be made, and may take a byte
abbrev pub MayGoOn : Amount → Type 0
MayGoOn a = (a.bytes < MOST_SCRIPT_BYTES) × (a.reads < MOST_READS)

-- nothing more may be read: there were MOST_SCRIPT_BYTES bytes or MOST_READS reads
abbrev pub IsAtLimit : Amount → Type 0
IsAtLimit a = (a.bytes ≡ MOST_SCRIPT_BYTES) ⊎ (a.reads ≡ MOST_READS)

-- a conversation can end with this fault after it read this amount: with TooLong only at the limit
abbrev pub MayEndBy : StreamFault → Amount → Type 0
MayEndBy TooLong a = IsAtLimit a
MayEndBy Read a = ⊤
MayEndBy Write a = ⊤
MayEndBy Memory a = ⊤
