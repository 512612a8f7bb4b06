-- A `Snapshot` can be sent to another thread, whatever it was made of: it owns nothing.
use denote.RattleType.{RattleType}
use denote.Param.Send.{IsSend}
use Rattle.snapshots.specs.contracts.Snapshot.{the_row}

pub send : (Y : RattleType) → IsSend (the_row Y)
send Y = record { owned = λ d vs. ((λ vss. (tt, ((λ uss. (tt, tt)), tt))), tt); leaving = λ k f vs. tt }
