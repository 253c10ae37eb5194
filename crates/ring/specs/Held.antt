-- The places that a ring over slots stands for. Assumes nothing.
use Rattle.std.specs.Prelude.{ℕ, List, take}
use Rattle.ring.specs.Views.{ring_view}
use Rattle.ring.specs.declared.ring.Ring.{Ring}

-- how many places a ring has
abbrev pub size_of : Ring → ℕ
size_of r = r.size

-- the slot at its front
abbrev pub front_of : Ring → ℕ
front_of r = r.front

-- the first slots, as many as the ring has, from its front on
abbrev pub held : {X : Type 0} → Ring → List X → List X
held r slots = ring_view r.front (take r.size slots)
