-- A reason's number is not 0, so that what C gets goes by the number.
use Rattle.std.proofs.Common.{◌≡◌, ℕ, ◌<◌, cond, eqb, arith, ne_eqb}
use Rattle.cstack.specs.declared.BadArgument.{BadArgument}
use Rattle.cstack.specs.declared.BadArgument.TheVariants.{Profile, Load, Ontime, OutOfRange}
use Rattle.cstack.specs.Tables.{number_of}

pub numbered : (b : BadArgument) → 0 < number_of b
numbered Profile = omega arith
numbered Load = omega arith
numbered Ontime = omega arith
numbered OutOfRange = omega arith

pub answer_refused : {A : Type 0} (b : BadArgument) {n : ℕ} (found : A) (refusal : ℕ → A) → number_of b ≡ n
    → refusal (number_of b) ≡ cond (eqb n 0) found (refusal n)
answer_refused b found refusal e =
    let some : number_of b ≡ 0 → ⊥ = λ z. omega (arith, z, numbered b) in
    simp (← e, ne_eqb _ _ some)
