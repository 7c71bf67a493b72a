-- Laws of the split over charged pieces: what leads from a split's meaning to what a search looks at.
-- Assumes nothing.
--
--   first-countable, last-countable    the pieces of a split can be charged
--   first-charge, last-charge          what they are charged above their budgets
--   tight-parts               the sum of the tight window: stall, charge and all interrupts
--   window-in, tight-in       the tight window that is found is the one that is meant
--   tight-same                it is one
--   untight, fails-here, fails-there   why a candidate does not fit
--   last-undecided            a last piece with no busy length: no greater one has one
--   none-one, none_first, none-next, none_end    no candidate above is allowed: at one that does not fit, at the start, after a step, at the end
--   splits_of                 the choice over charged pieces is the split of the pieces
use Rattle.std.specs.Prelude.{None, Option, Some}
use mathlib.Core.Path.{◌≡◌, refl, sym, ap, ◌∙◌, subst, fun_ext}
use mathlib.Core.List.{List, [], ◌∷◌, ◌++◌}
use mathlib.Core.Logic.{⊎_elim}
use Prim.Native.Nat.{ℕ, zero, suc, ◌+◌, ◌*◌, ◌-◌, ◌/◌, ◌≤◌, ◌<◌}
use native.Mathlib.Nat.{zero-mul, mul-le-mul_right, mul-le-mul_left, le-div_iff_mul-le, div-lt_iff_lt-mul, div-mul-le_self}
use native.Mathlib.Decide.{dec_lt}
use native.Mathlib.Omega.{arith}
use Rattle.demand.specs.declared.Piece.{Piece}
use Rattle.demand.specs.declared.Costs.{Costs}
use Rattle.demand.specs.declared.Charged.{Charged}
use Rattle.demand.specs.declared.Verdict.{Verdict}
use Rattle.demand.specs.declared.Verdict.TheVariants.{Passes, Undecided}
use Rattle.demand.specs.Sizes.{SizedCosts, Sized, Each}
use Rattle.demand.specs.Ways.Ranges.{Countable, Ranged}
use Rattle.demand.specs.Charge.{charge, charged, ipi_cost, core_of, stall}
use Rattle.demand.specs.Demand.{ceil, total, interrupts, largest_window}
use Rattle.demand.specs.Busy.{Least, Holds, Finds, least_holding, busy_load, busy_sum, later, tight_sum, tight_window}
use Rattle.demand.specs.Verdict.{Means, verdict, verdict_of}
use Rattle.demand.specs.Split.{piece_of, first_piece, last_piece, tight_on, Allowed, Candidate, Splits}
use Rattle.demand.specs.Answer.{tight_of_last}
use Rattle.demand.specs.Ways.ChargedSplit.{NoneBetween, with_first, last_alone, tight_beside, Tight, Fits, NoneAbove, Chosen, TightIn}
use Rattle.demand.proofs.Sums.{total-snoc, each_snoc}
use Rattle.demand.proofs.DemandLaws.{Recurs, interrupts-mono, interrupts-all-mono}
use Rattle.demand.proofs.ChargeLaws.{charged-ranged, core-snoc, late-jitter-le}
use Rattle.demand.proofs.BusyLaws.{least-unique, least-holding-finds, tight-of-last}
use Rattle.demand.proofs.VerdictLaws.{verdict-means}
use Rattle.demand.specs.declared.Cut.{Cut}

-- ---- the two pieces

pub first-countable : (p : Piece) (x w : ℕ) → Sized p → x ≤ p.budget → w ≤ p.window → Countable (first_piece p x w)
unfolding first_piece piece_of
first-countable p x w ok less room = record {
  budget-fits = omega arith;
  window-fits = omega arith;
  period-some = omega arith;
  period-fits = omega arith;
  jitter-fits = omega arith;
  preempt-fits = omega arith;
  migrate-fits = omega arith;
}

pub last-countable : (c : Costs) (p : Piece) (x w : ℕ) → SizedCosts c → Sized p → Countable (last_piece c p x w)
unfolding last_piece piece_of
last-countable c p x w costs ok = record {
  budget-fits = omega arith;
  window-fits = omega arith;
  period-some = omega arith;
  period-fits = omega arith;
  jitter-fits = late-jitter-le c;
  preempt-fits = omega arith;
  migrate-fits = omega arith;
}

-- what a first piece is charged above its budget, and what a last one is
unfoldable pub extra : Costs → Piece → ℕ
extra c p = 2 * c.schedo + c.tseto + p.preempt + (c.ipb + c.beto + c.migro)

unfoldable pub last_extra : Costs → Piece → ℕ
last_extra c p = 2 * c.schedo + c.tseto + p.preempt + p.migrate

pub first-charge : (c : Costs) (p : Piece) (x w : ℕ) → (charged c (first_piece p x w)).charge ≡ x + extra c p
unfolding charged charge first_piece extra piece_of
first-charge c p x w = omega arith

pub last-charge : (c : Costs) (p : Piece) (x w : ℕ) → (charged c (last_piece c p x w)).charge ≡ p.budget - x + last_extra c p
unfolding charged charge last_piece last_extra piece_of
last-charge c p x w = omega arith

-- what holds of a core's pieces and of the first piece holds of both
pub with_each : (P : Charged → Type 0) (c : Costs) (qs : List Charged) (p : Piece) (x w : ℕ) → Each P qs → P (charged c (first_piece p x w))
    → Each P (with_first c qs p x w)
unfolding with_first
with_each P c qs p x w ok own = each_snoc P qs (charged c (first_piece p x w)) ok own

pub with-ranged : (c : Costs) (qs : List Charged) (p : Piece) (x w : ℕ) → SizedCosts c → Sized p → x ≤ p.budget → w ≤ p.window
    → Each Ranged qs → Each Ranged (with_first c qs p x w)
with-ranged c qs p x w costs ok less room each =
    with_each Ranged c qs p x w each (charged-ranged c costs (first_piece p x w) (first-countable p x w ok less room))

pub alone-ranged : (c : Costs) (p : Piece) (x w : ℕ) → SizedCosts c → Sized p → Each Ranged (last_alone c p x w)
unfolding last_alone
alone-ranged c p x w costs ok = (charged-ranged c costs (last_piece c p x w) (last-countable c p x w costs ok), tt)

-- ---- the tight window

-- all interrupts within t, the first piece's included
unfoldable pub calls : Costs → List Charged → Piece → ℕ → ℕ
calls c qs p t = total (λ q. interrupts q t) qs + interrupts (charged c (first_piece p 0 0)) t

pub first-interrupts : (c : Costs) (p : Piece) (x w t : ℕ) → interrupts (charged c (first_piece p x w)) t ≡ interrupts (charged c (first_piece p 0 0)) t
unfolding interrupts charged ipi_cost first_piece piece_of
first-interrupts c p x w t = refl

sum-parts : (c : Costs) (qs : List Charged) (p : Piece) (x w t : ℕ)
    → tight_sum (stall c) (with_first c qs p x w) (charged c (first_piece p x w)) t ≡ stall c + (x + extra c p) + calls c qs p t
unfolding tight_sum with_first calls
sum-parts c qs p x w t =
    omega (arith, first-charge c p x w, first-interrupts c p x w t, total-snoc (λ q. interrupts q t) qs (charged c (first_piece p x w)))

pub tight-parts : (c : Costs) (qs : List Charged) (p : Piece) (x t : ℕ) → tight_beside c qs p x t ≡ stall c + (x + extra c p) + calls c qs p t
unfolding tight_beside
tight-parts c qs p x t = sum-parts c qs p x 0 t

pub first-recurs : (c : Costs) (p : Piece) (x w : ℕ) → Sized p → Recurs (charged c (first_piece p x w))
unfolding charged first_piece piece_of
first-recurs c p x w ok = record { again = omega arith }

pub calls_mono : (c : Costs) (qs : List Charged) (p : Piece) {t u : ℕ} → t ≤ u → calls c qs p t ≤ calls c qs p u
unfolding calls
calls_mono c qs p h = omega (arith, interrupts-all-mono qs h, interrupts-mono (charged c (first_piece p 0 0)) h)

tight-mono : (c : Costs) (qs : List Charged) (p : Piece) (x m n : ℕ) → m ≤ n → tight_beside c qs p x m ≤ tight_beside c qs p x n
tight-mono c qs p x m n h = omega (arith, tight-parts c qs p x m, tight-parts c qs p x n, calls_mono c qs p h)

-- the window of the first piece does not count
sum_same : (c : Costs) (qs : List Charged) (p : Piece) (x w : ℕ)
    → tight_sum (stall c) (with_first c qs p x w) (charged c (first_piece p x w)) ≡ tight_beside c qs p x
sum_same c qs p x w = fun_ext (λ t. sum-parts c qs p x w t ∙ sym (tight-parts c qs p x t))

window-parts : (c : Costs) (qs : List Charged) (p : Piece) (x w top : ℕ)
    → tight_window (stall c) (with_first c qs p x w) (charged c (first_piece p x w)) top
    ≡ later p.jitter (least_holding (tight_beside c qs p x) (top - p.jitter))
unfolding tight_window charged first_piece piece_of
window-parts c qs p x w top = ap (λ (f : ℕ → ℕ). later p.jitter (least_holding f (top - p.jitter))) (sum_same c qs p x w)

module _ (c : Costs) (qs : List Charged) (p : Piece) (x : ℕ) where
  found_in : (f : Option ℕ) → Finds (tight_beside c qs p x) (p.window - 1 - p.jitter) f → TightIn c qs p x (later p.jitter f)
  found_in (Some t) found = (t, found.0, omega (arith, found.0.here.some, found.1), refl)
  found_in None none = λ t tight room. none t (omega arith) tight.here

  pub window-in : (w : ℕ) → TightIn c qs p x (tight_window (stall c) (with_first c qs p x w) (charged c (first_piece p x w)) (p.window - 1))
  window-in w =
      rw (window-parts c qs p x w (p.window - 1)) (found_in (least_holding (tight_beside c qs p x) (p.window - 1 - p.jitter))
      (least-holding-finds (tight_beside c qs p x) (tight-mono c qs p x) (p.window - 1 - p.jitter)))

last-window : (b : ℕ) (c : Costs) (qs : List Charged) (p : Piece) (x w : ℕ)
    → tight_of_last b (with_first c qs p x w) (with_first c qs p x w) ≡ tight_window b (with_first c qs p x w) (charged c (first_piece p x w)) w
unfolding with_first charged first_piece piece_of
last-window b c qs p x w = tight-of-last b (qs ++ (charged c (first_piece p x w) ∷ [])) qs (charged c (first_piece p x w))

-- as the code looks for it: behind the core, with the widest window that leaves the last piece one
pub tight-in : (c : Costs) (qs : List Charged) (p : Piece) (x : ℕ) (rs : List Charged)
    → rs ≡ with_first c qs p x (p.window - 1) → (r : Option ℕ) → r ≡ tight_of_last (stall c) rs rs → TightIn c qs p x r
tight-in c qs p x rs laid r found =
    rw (found, laid, last-window (stall c) c qs p x (p.window - 1)) (window-in c qs p x (p.window - 1))

pub tight-same : (c : Costs) (qs : List Charged) (p : Piece) (x : ℕ) {t u : ℕ} → Tight c qs p x t → Tight c qs p x u → t ≡ u
tight-same c qs p x m n = least-unique m n

-- ---- why a candidate does not fit

module _ (c : Costs) (qs : List Charged) (p : Piece) (x : ℕ) where
  pub untight : TightIn c qs p x None → (u : ℕ) → Fits c qs p x u → ⊥
  untight none u fits = none u fits.tight fits.room

  pub fails-here : (t w : ℕ) → Tight c qs p x t → w ≡ p.jitter + t → (v : Verdict) → v ≡ verdict (stall c) (with_first c qs p x w)
      → (v ≡ Passes → ⊥) → (u : ℕ) → Fits c qs p x u → ⊥
  fails-here t w tight at v judged fails u fits =
      let e : w ≡ p.jitter + u = omega (arith, tight-same c qs p x tight fits.tight) in
      fails (judged ∙ (ap (λ (n : ℕ). verdict (stall c) (with_first c qs p x n)) e ∙ fits.here))

  pub fails-there : (t w : ℕ) → Tight c qs p x t → w ≡ p.jitter + t → (v : Verdict) → v ≡ verdict (stall c) (last_alone c p x w)
      → (v ≡ Passes → ⊥) → (u : ℕ) → Fits c qs p x u → ⊥
  fails-there t w tight at v judged fails u fits =
      let e : w ≡ p.jitter + u = omega (arith, tight-same c qs p x tight fits.tight) in
      fails (judged ∙ (ap (λ (n : ℕ). verdict (stall c) (last_alone c p x n)) e ∙ fits.there))

-- ---- the last piece alone

pub last-largest : (c : Costs) (p : Piece) (x w : ℕ) → largest_window (last_alone c p x w) ≡ p.window - w
unfolding last_alone charged last_piece piece_of
last-largest c p x w = omega arith

pub last-recurs : (c : Costs) (p : Piece) (x w : ℕ) → Sized p → Each Recurs (last_alone c p x w)
unfolding last_alone charged last_piece piece_of
last-recurs c p x w ok = (record { again = omega arith }, tt)

-- what the last piece asks for beside its charge: its interrupts
unfoldable last_calls : Costs → ℕ
last_calls c = c.relo + c.tseto + c.ipio

last-load : (c : Costs) (p : Piece) (x w l : ℕ) → busy_sum (last_alone c p x w) l ≡ ceil l p.period * (p.budget - x + last_extra c p + last_calls c)
unfolding busy_sum busy_load last_alone charged charge ipi_cost last_piece last_extra last_calls piece_of
last-load c p x w l = omega arith

busier : (c : Costs) (p : Piece) (x y v w l : ℕ) → y ≤ x → busy_sum (last_alone c p x v) l ≤ busy_sum (last_alone c p y w) l
busier c p x y v w l h =
    omega (arith, last-load c p x v l, last-load c p y w l, mul-le-mul_left (ceil l p.period) (more h))
  where
    more : y ≤ x → p.budget - x + last_extra c p + last_calls c ≤ p.budget - y + last_extra c p + last_calls c
    more h = omega arith

pub never-empty : (c : Costs) (p : Piece) (x w : ℕ) → last_alone c p x w ≡ [] → ⊥
unfolding last_alone
never-empty c p x w e = let z : ◌≡◌ {A = ℕ} 0 1 = cc in omega arith

pub last-undecided : (c : Costs) (p : Piece) (x y v w : ℕ) → y ≤ x → verdict (stall c) (last_alone c p x v) ≡ Undecided
    → verdict (stall c) (last_alone c p y w) ≡ Passes → ⊥
last-undecided c p x y v w h undecided pass =
    let none = subst (λ (r : Verdict). Means (stall c) (last_alone c p x v) r) undecided (verdict-means (stall c) (last_alone c p x v)) in
    let span = subst (λ (r : Verdict). Means (stall c) (last_alone c p y w) r) pass (verdict-means (stall c) (last_alone c p y w)) in
    ⊎_elim (λ e. never-empty c p y w e)
    (λ j. none j.1 j.2.within (record { some = j.2.busy.here.some; fits = omega (arith, j.2.busy.here.fits, busier c p x y v w j.1 h) })) span

-- ---- what one candidate tells

pub none-one : (c : Costs) (qs : List Charged) (p : Piece) (x : ℕ) → 1 ≤ x → ((u : ℕ) → Fits c qs p x u → ⊥) → NoneBetween c qs p (x - 1) x
none-one c qs p x some none = (omega arith, λ z u low high fits. let e : z ≡ x = omega arith in none u (subst (λ (y : ℕ). Fits c qs p y u) e fits))

-- ---- the multiples of the grain

module _ (g : ℕ) (p : Piece) (pos : 1 ≤ g) where
  pub rounded : (y z : ℕ) → Candidate g p z → z ≤ y → z ≤ y / g * g
  rounded y z k h = rw k.multiple (mul-le-mul_right g ((le-div_iff_mul-le pos).1 (omega (arith, k.multiple))))

  pub none_first : (c : Costs) (qs : List Charged) → NoneAbove c g qs p ((p.budget - 1) / g * g)
  none_first c qs z u high k fits = omega (arith, rounded (p.budget - 1) z k (omega (arith, k.less)))

  pub start-below : (r : ℕ) → r < p.budget → r / g * g < p.budget
  start-below r h = omega (arith, div-mul-le_self r g)

  pub none-next : (c : Costs) (qs : List Charged) (x y : ℕ) → NoneAbove c g qs p x → NoneBetween c qs p y x → NoneAbove c g qs p (y / g * g)
  none-next c qs x y above step z u high k fits = elim (dec_lt y z) [
    | no b ↦ omega (arith, rounded y z k (omega arith))
    | yes b ↦ elim (dec_lt x z) [ yes l ↦ above z u l k fits | no l ↦ step.1 z u b (omega arith) fits ]
  ]

  pub none_end : (c : Costs) (qs : List Charged) (k : ℕ) → k < 1 → NoneAbove c g qs p (k * g) → NoneAbove c g qs p 0
  none_end c qs zero h above = subst (λ (x : ℕ). NoneAbove c g qs p x) (zero-mul g) above
  none_end c qs (suc k) h above = absurd (omega arith)

  pub next-less : (k y : ℕ) → y < k * g → y / g < k
  next-less k y h = (div-lt_iff_lt-mul pos).1 h

  pub next-below : (k y : ℕ) → y < k * g → k * g < p.budget → y / g * g < p.budget
  next-below k y h l = omega (arith, div-mul-le_self y g)

  pub multiple-some : (k : ℕ) → 1 ≤ k → 1 ≤ k * g
  multiple-some k h = omega (arith, mul-le-mul_right g h)

  -- a budget of 0 has no multiple below it
  pub first_below : 1 ≤ (p.budget - 1) / g → (p.budget - 1) / g * g < p.budget
  first_below some = omega (arith, div-mul-le_self (p.budget - 1) g, multiple-some ((p.budget - 1) / g) some)

-- ---- from charged pieces to pieces

module _ (c : Costs) (ps : List Piece) (p : Piece) where
  pub with-core : (x w : ℕ) → core_of c (ps ++ (first_piece p x w ∷ [])) ≡ with_first c (core_of c ps) p x w
  unfolding with_first
  with-core x w = core-snoc c ps (first_piece p x w)

  pub sum-core : (x : ℕ) → tight_on c ps p x ≡ tight_beside c (core_of c ps) p x
  unfolding tight_on tight_beside
  sum-core x = fun_ext (λ t. ap (λ (qs : List Charged). tight_sum (stall c) qs (charged c (first_piece p x 0)) t) (with-core x 0))

  pub first-verdict : (x w : ℕ) → verdict_of c (ps ++ (first_piece p x w ∷ [])) ≡ verdict (stall c) (with_first c (core_of c ps) p x w)
  unfolding verdict_of
  first-verdict x w = rw (with-core x w)

  pub last-verdict : (x w : ℕ) → verdict_of c (last_piece c p x w ∷ []) ≡ verdict (stall c) (last_alone c p x w)
  unfolding verdict_of core_of last_alone
  last-verdict x w = refl

  pub fits-allowed : (x t : ℕ) → Fits c (core_of c ps) p x t → Allowed c ps p x t
  fits-allowed x t fits = record {
    tight = subst (λ (f : ℕ → ℕ). Least (Holds f) t) (sym (sum-core x)) fits.tight;
    last-window = fits.room;
    first_passes = first-verdict x (p.jitter + t) ∙ fits.here;
    last-passes = last-verdict x (p.jitter + t) ∙ fits.there;
  }

  pub allowed-fits : (x t : ℕ) → Allowed c ps p x t → Fits c (core_of c ps) p x t
  allowed-fits x t allowed = record {
    tight = subst (λ (f : ℕ → ℕ). Least (Holds f) t) (sum-core x) allowed.tight;
    room = allowed.last-window;
    here = sym (first-verdict x (p.jitter + t)) ∙ allowed.first_passes;
    there = sym (last-verdict x (p.jitter + t)) ∙ allowed.last-passes;
  }

  pub splits_of : (g : ℕ) (s : Option Cut) → Chosen c g (core_of c ps) p s → Splits c g ps p s
  splits_of g (Some s) chosen = (
    chosen.0,
    record {
      candidate = chosen.1;
      allowed = fits-allowed s.budget chosen.0 chosen.2;
      none_above = λ y u high k allowed. chosen.3 y u high k (allowed-fits y u allowed);
    },
    chosen.4,
  )
  splits_of g None none = λ x t k allowed. none x t k.some k (allowed-fits x t allowed)
