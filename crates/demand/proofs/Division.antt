-- Floor and ceiling by a variable divisor, and bounds of products.
-- Assumes nothing.
--
--   div_mono, ceil-mono      neither falls, whatever the divisor is
--   div-add-ceil             ⌊(a + b) / k⌋ ≤ ⌊a / k⌋ + ⌈b / k⌉
--   ceil-add                 ⌈(a + b) / k⌉ ≤ ⌈a / k⌉ + ⌈b / k⌉
--   ceil-one-more            1 + ⌊a / k⌋ = ⌈(a + 1) / k⌉
--   ceil-le                  ⌈a / k⌉ ≤ a
--   ceil-covers, -near       a ≤ ⌈a / k⌉ k < a + k
--   ceil-whole, -between     ⌈a / k⌉ at a multiple of k, and past one
--   prod-le                  a product of bounded numbers is bounded
use mathlib.Core.Path.{◌≡◌}
use Prim.Native.Nat.{ℕ, zero, suc, ◌+◌, ◌*◌, ◌-◌, ◌/◌, ◌≤◌, ◌<◌, zero-le}
use native.Mathlib.Nat.{div-zero, div-mul-le_self, le-div_iff_mul-le, div-lt_iff_lt-mul, lt-div-mul-add, add-div_right, div-eq_of_lt-le}
use native.Mathlib.Nat.{mul-le-mul, mul-le-mul_left}
use native.Mathlib.Omega.{arith}
use Rattle.demand.specs.Demand.{ceil}

-- a quotient by 0 is 0, so no divisor is left out
pub div_mono : (k : ℕ) {a b : ℕ} → a ≤ b → a / k ≤ b / k
div_mono zero {a} h = rw (div-zero a) zero-le
div_mono (suc k) {a} h = (le-div_iff_mul-le {k = suc k} (omega arith)).1 (omega (arith, div-mul-le_self a (suc k)))

pub div-add-ceil : (a b : ℕ) {k : ℕ} → 0 < k → (a + b) / k ≤ a / k + ceil b k
unfolding ceil
div-add-ceil a b {k} pos =
    let below : (a + b) / k < a / k + (b + (k - 1)) / k + 1 =
    (div-lt_iff_lt-mul pos).1 (omega (arith, lt-div-mul-add {a = a} pos, lt-div-mul-add {a = b + (k - 1)} pos)) in
    omega arith

pub ceil-mono : (k : ℕ) {a b : ℕ} → a ≤ b → ceil a k ≤ ceil b k
unfolding ceil
ceil-mono k h = div_mono k (omega arith)

pub ceil-add : (a b : ℕ) {k : ℕ} → 0 < k → ceil (a + b) k ≤ ceil a k + ceil b k
unfolding ceil
ceil-add a b {k} pos =
    let e : a + b + (k - 1) ≡ a + (k - 1) + b = omega arith in
    rw e (div-add-ceil (a + (k - 1)) b pos)

pub ceil-one-more : (a : ℕ) {k : ℕ} → 0 < k → ceil (a + 1) k ≡ 1 + a / k
unfolding ceil
ceil-one-more a {k} pos =
    let e : a + 1 + (k - 1) ≡ a + k = omega arith in
    rw e (omega (arith, add-div_right a pos))

pub ceil-le : (a : ℕ) {k : ℕ} → 0 < k → ceil a k ≤ a
unfolding ceil
ceil-le a {k} pos =
    let below : (a + (k - 1)) / k < a + 1 = (div-lt_iff_lt-mul pos).1 (omega (arith, mul-le-mul_left a pos)) in
    omega arith

pub ceil-covers : (a : ℕ) {k : ℕ} → 0 < k → a ≤ ceil a k * k
unfolding ceil
ceil-covers a {k} pos = omega (arith, lt-div-mul-add {a = a + (k - 1)} pos)

pub ceil-near : (a : ℕ) {k : ℕ} → 0 < k → ceil a k * k < a + k
unfolding ceil
ceil-near a {k} pos = omega (arith, div-mul-le_self (a + (k - 1)) k)

pub ceil-whole : (j : ℕ) {k : ℕ} → 0 < k → ceil (j * k) k ≡ j
unfolding ceil
ceil-whole j {k} pos = div-eq_of_lt-le {k = j} k {m = j * k + (k - 1)} (omega arith) (omega arith)

pub ceil-between : (j a : ℕ) {k : ℕ} → 0 < k → j * k < a → a ≤ j * k + k → ceil a k ≡ j + 1
unfolding ceil
ceil-between j a {k} pos past by = div-eq_of_lt-le {k = j + 1} k {m = a + (k - 1)} (omega arith) (omega arith)

pub prod-le : (m n : ℕ) {a b : ℕ} → a ≤ m → b ≤ n → a * b ≤ m * n
prod-le m n h k = mul-le-mul h k
