-- The contract of `until`, which tells of its two slices by their bytes, settles these.
-- Assumes nothing.
--
--   SameRest r s       nothing stands beyond either run, or beyond both the same bytes
--   until-settled      two results that are told alike have the same run, and the same beyond it
use mathlib.Core.Path.{◌≡◌, ap}
use mathlib.Core.List.{List}
use Prim.Native.Nat.{ℕ}
use native.Mathlib.Omega.{arith}
use Rattle.std.proofs.Common.{Option, Some, None, Bor}
use Rattle.std.specs.Option.{option_map}
use Rattle.lines.specs.Lines.{until_shown}

abbrev pub SameRest : (r s : Option (Bor (List ℕ))) → Type 0
SameRest None None = Unit {0}
SameRest None (Some y) = ⊥
SameRest (Some x) None = ⊥
SameRest (Some x) (Some y) = x.now ≡ y.now

pub until-settled : (r s : Bor (List ℕ) × Option (Bor (List ℕ))) → until_shown r ≡ until_shown s → (r.0.now ≡ s.0.now) × SameRest r.1 s.1
until-settled r s e = (ap (λ (z : List ℕ × Option (List ℕ)). z.0) e, rest r.1 s.1 (ap (λ (z : List ℕ × Option (List ℕ)). z.1) e))
  where
    rest : (x y : Option (Bor (List ℕ))) → option_map (λ b. b.now) x ≡ option_map (λ b. b.now) y → SameRest x y
    rest None None e = tt
    rest None (Some y) e = absurd (let z : ◌≡◌ {A = ℕ} 0 1 = cc in omega arith)
    rest (Some x) None e = absurd (let z : ◌≡◌ {A = ℕ} 0 1 = cc in omega arith)
    rest (Some x) (Some y) e = cc
