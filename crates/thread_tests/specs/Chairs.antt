-- Chairs of a desk over a safe bit.
use Rattle.std.specs.Prelude.{List}
use Rattle.frames.specs.declared.safe.SafePoint.{SafePoint}
use Rattle.frames.specs.SafeBit.{safe_behaviour}
use Rattle.turn.specs.declared.chair.Chair.{Chair}
use Rattle.desk.specs.declared.item.Item.{Item}
use Rattle.desk.specs.declared.desk.Desk.{Desk}
use Rattle.desk.specs.Chairs.{IsChairOf}

-- both chairs are chairs of this desk
abbrev pub AreChairsOf : {R : Type 0} {g h : _} → Desk R SafePoint → Chair (List (Item R SafePoint)) (Item R SafePoint) g × Chair (List (Item R SafePoint)) (Item R SafePoint) h → Type 0
AreChairsOf desk chairs = IsChairOf (λ _. safe_behaviour) desk chairs.0 × IsChairOf (λ _. safe_behaviour) desk chairs.1
