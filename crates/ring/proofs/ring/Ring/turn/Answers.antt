use Rattle.std.proofs.Common.{arith}
use Rattle.ring.proofs.HeldPlaces.{held_turned}
use Rattle.ring.proofs.ring.Ring.turn.Goals as goal

pub returns : goal.returns
returns c =
    record {
      size = c.move_on.ensures.size;
      front = c.move_on.ensures.front;
      shifts = λ xs v e. held_turned c.args.self.now xs (omega arith) c.move_on.new.self c.move_on.ensures.size c.move_on.ensures.front v;
    }
