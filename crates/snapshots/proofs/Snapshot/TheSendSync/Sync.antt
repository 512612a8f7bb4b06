-- A `Snapshot` can be shared by threads, whatever it was made of: it has no bytes to race for.
use denote.RattleType.{RattleType}
use denote.Param.Send.{IsSend, IsSync, part_keyless}
use Rattle.snapshots.specs.contracts.Snapshot.{the_row}

send : (Y : RattleType) → IsSend (the_row Y)
send Y = record { owned = λ d vs. ((λ vss. (tt, ((λ uss. (tt, tt)), tt))), tt); leaving = λ k f vs. tt }

pub sync : (Y : RattleType) → IsSync (the_row Y)
sync Y = record { shared = λ d b o κ q. part_keyless (the_row Y) (send Y) q d b o }
