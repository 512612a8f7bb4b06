use Rattle.std.proofs.Common.{◌≡◌, subst}
use Rattle.std.specs.Result.{OnOk}
use Rattle.schedule_trie.proofs.lists.ListParts.{take_rest}
use Rattle.schedule_trie.proofs.segment.copy_from.Goals as goal
