use Rattle.ring.proofs.HeldPlaces.{slot_law}
use Rattle.ring.proofs.ring.Ring.slot.Goals as goal

pub returns : goal.returns
returns c =
    record {
      value = c.slot_number.ensures;
      is_place_k = λ xs e. slot_law c.args.self.now xs e c.args.k c.slot_number.result c.slot_number.ensures;
    }
