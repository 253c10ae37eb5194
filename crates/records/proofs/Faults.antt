-- Faults by their numbers. Assumes nothing.
use Rattle.std.proofs.Common.{◌≡◌, ℕ, ◌≤◌, subst}
use Rattle.std.proofs.Math.Bridge.{le_prop}
use Rattle.records.specs.declared.fault.Fault.{Fault}

-- two faults of one number are one fault
pub same_fault : (f g : Fault) → f.number ≡ g.number → f ≡ g
same_fault f g e =
    subst
    (λ (n : ℕ). (low : 1 ≤ n) (high : n ≤ 255) → f ≡ record { number = n; from_one = low; to_255 = high })
    e
    (λ low high i. record { number = f.number; from_one = le_prop f.from_one low i; to_255 = le_prop f.to_255 high i })
    g.from_one g.to_255
