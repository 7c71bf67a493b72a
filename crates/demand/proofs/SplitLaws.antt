-- Laws of the split: document 01, "The C=D walk". What another crate cites of it is here.
-- Assumes nothing.
--
--   passes-exact          the test of a verdict holds exactly where it is "passes"
--   split-exact           the executable definition gives exactly the split that is meant, whatever the pieces are
--   split-none            a grain of 0 has no multiples that count
--   split-unique          two splits that satisfy the meaning coincide
--   split_parts           an allowed split leaves two pieces within the sizes, and both verdicts pass
--   tight-is-budget       with costs, J and P zero the tight window is x itself, which is C=D
--   tight-first-budget    the same of the executable definition
use Rattle.std.specs.Prelude.{None, Option, Some}
use mathlib.Core.Path.{◌≡◌, refl, sym, ap, ◌∙◌, subst}
use mathlib.Core.Bool.{Bool, true, false, cond}
use mathlib.Core.List.{List, [], ◌∷◌, ◌++◌}
use mathlib.Core.Logic.{◌⊎◌, ◌↔◌}
use Prim.Native.Nat.{ℕ, zero, suc, ◌+◌, ◌*◌, ◌-◌, ◌/◌, ◌≤◌, ◌<◌}
use native.Mathlib.Nat.{mul-le-mul_right, zero-mul, mul-zero, div-zero}
use native.Mathlib.Decide.{dec_lt}
use native.Mathlib.Omega.{arith}
use Rattle.demand.specs.declared.Piece.{Piece}
use Rattle.demand.specs.declared.Costs.{Costs}
use Rattle.demand.specs.declared.Charged.{Charged}
use Rattle.demand.specs.declared.Verdict.{Verdict}
use Rattle.demand.specs.declared.Verdict.TheVariants.{Passes, Overloaded, Undecided}
use Rattle.demand.specs.Sizes.{SizedCosts, Sized, Each, Tells}
use Rattle.demand.specs.Kinds.{arrives}
use Rattle.demand.specs.Charge.{charge, charged, ipi_cost, core_of, stall}
use Rattle.demand.specs.Demand.{ceil, total, interrupts, jobs_due, load, demand, Live}
use Rattle.demand.specs.Busy.{Least, Holds, tight_sum}
use Rattle.demand.specs.Verdict.{Means, verdict, verdict_of}
use Rattle.demand.specs.Split.{cut_at, piece_of, first_piece, last_piece, tight_on, Splits, passes, tight_first, both_pass, splitting, greatest_split}
use Rattle.demand.specs.Ways.ChargedSplit.{last_alone, Tight, Fits, NoneAbove, Chosen, TightIn}
use Rattle.demand.proofs.DemandLaws.{Recurs, jobs-due-some, demand-above}
use Rattle.demand.proofs.ChargeLaws.{when-le, late-jitter-le}
use Rattle.demand.proofs.SizeLaws.{tells-exact, tells_both}
use Rattle.demand.proofs.BusyLaws.{least-unique}
use Rattle.demand.proofs.VerdictLaws.{verdict-means, passes-forever}
use Rattle.demand.proofs.ChargedSplitLaws.{window-in, untight, none-one, none_first, none-next, next-less, first_below}
use Rattle.demand.proofs.ChargedSplitLaws.{multiple-some, with-core, sum-core, first-verdict, last-verdict, allowed-fits}
use Rattle.demand.proofs.ChargedSplitLaws.{splits_of, last-charge, tight-parts, last-recurs}
use Rattle.demand.specs.declared.Cut.{Cut}

-- ---- the executable definition satisfies the meaning

passes-tells : (v : Verdict) → Tells (v ≡ Passes) (passes v)
passes-tells Passes = refl
passes-tells (Overloaded t) = λ e. let z : ◌≡◌ {A = ℕ} 0 1 = cc in omega arith
passes-tells Undecided = λ e. let z : ◌≡◌ {A = ℕ} 0 1 = cc in omega arith

pub passes-exact : (v : Verdict) → (passes v ≡ true) ↔ (v ≡ Passes)
passes-exact v = tells-exact (v ≡ Passes) (passes v) (passes-tells v)

module _ (c : Costs) (ps : List Piece) (p : Piece) where
  both-tells : (x w : ℕ)
      → Tells ((verdict_of c (ps ++ (first_piece p x w ∷ [])) ≡ Passes) × (verdict_of c (last_piece c p x w ∷ []) ≡ Passes)) (both_pass c ps p x w)
  unfolding both_pass
  both-tells x w =
      tells_both (verdict_of c (ps ++ (first_piece p x w ∷ [])) ≡ Passes) (verdict_of c (last_piece c p x w ∷ []) ≡ Passes)
      (passes (verdict_of c (ps ++ (first_piece p x w ∷ [])))) (passes (verdict_of c (last_piece c p x w ∷ [])))
      (passes-tells (verdict_of c (ps ++ (first_piece p x w ∷ [])))) (passes-tells (verdict_of c (last_piece c p x w ∷ [])))

  first-in : (x : ℕ) → TightIn c (core_of c ps) p x (tight_first c ps p x)
  unfolding tight_first
  first-in x = rw (with-core c ps p x 0) (window-in c (core_of c ps) p x 0)

module _ (c : Costs) (g : ℕ) (ps : List Piece) (p : Piece) (pos : 1 ≤ g) where
  none-step : (k : ℕ) → NoneAbove c g (core_of c ps) p (suc k * g) → ((u : ℕ) → Fits c (core_of c ps) p (suc k * g) u → ⊥) → NoneAbove c g (core_of c ps) p (k * g)
  none-step k above none z u high =
      let x = suc k * g in
      let some : 1 ≤ suc k * g = multiple-some g p pos (suc k) (omega arith) in
      let below : (suc k * g - 1) / g ≤ k = omega (arith, next-less g p pos (suc k) (suc k * g - 1) (omega arith)) in
      none-next g p pos c (core_of c ps) x (x - 1) above (none-one c (core_of c ps) p x some none) z u (omega (arith, mul-le-mul_right g below))

  chosen : (k : ℕ) → (1 ≤ k → k * g < p.budget) → NoneAbove c g (core_of c ps) p (k * g) → Chosen c g (core_of c ps) p (splitting c g ps p k)
  chosen zero less above = subst (λ (x : ℕ). NoneAbove c g (core_of c ps) p x) (zero-mul g) above
  chosen (suc k) less above =
      look (tight_first c ps p (suc k * g)) (first-in c ps p (suc k * g)) (λ none. chosen k (λ some. omega (arith, less (omega arith))) (none-step k above none))
    where
      both : (t w : ℕ) → Tight c (core_of c ps) p (suc k * g) t → p.jitter + t + 1 ≤ p.window → w ≡ p.jitter + t → (b : Bool)
          → Tells ((verdict_of c (ps ++ (first_piece p (suc k * g) w ∷ [])) ≡ Passes) × (verdict_of c (last_piece c p (suc k * g) w ∷ []) ≡ Passes)) b
          → (((u : ℕ) → Fits c (core_of c ps) p (suc k * g) u → ⊥) → Chosen c g (core_of c ps) p (splitting c g ps p k))
          → Chosen c g (core_of c ps) p (elim b [ true ↦ cut_at (suc k * g) w | false ↦ splitting c g ps p k ])
      both t w tight room at true pass more = (
        t,
        record { times = suc k; multiple = refl; some = multiple-some g p pos (suc k) (omega arith); less = less (omega arith) },
        record {
          tight = tight;
          room = room;
          here = rw at at (sym (first-verdict c ps p (suc k * g) w) ∙ pass.0);
          there = rw at at (sym (last-verdict c ps p (suc k * g) w) ∙ pass.1);
        },
        above,
        at,
      )
      both t w tight room at false fail more = more (λ u fits.
          let e : w ≡ p.jitter + u = omega (arith, least-unique tight fits.tight) in
          fail (first-verdict c ps p (suc k * g) w ∙ rw e fits.here, last-verdict c ps p (suc k * g) w ∙ rw e fits.there))

      look : (f : Option ℕ) → TightIn c (core_of c ps) p (suc k * g) f
          → (((u : ℕ) → Fits c (core_of c ps) p (suc k * g) u → ⊥) → Chosen c g (core_of c ps) p (splitting c g ps p k))
          → Chosen c g (core_of c ps) p (elim f [
            | Some w ↦
                elim (both_pass c ps p (suc k * g) w) [ true ↦ cut_at (suc k * g) w | false ↦ splitting c g ps p k ]
            | None ↦ splitting c g ps p k
          ])
      look (Some w) found more = both found.0 w found.1 found.2 found.3 (both_pass c ps p (suc k * g) w) (both-tells c ps p (suc k * g) w) more
      look None none more = more (untight c (core_of c ps) p (suc k * g) none)

  some-means : Splits c g ps p (greatest_split c g ps p)
  unfolding greatest_split
  some-means =
      splits_of c ps p g (splitting c g ps p ((p.budget - 1) / g))
      (chosen ((p.budget - 1) / g) (first_below g p pos) (none_first g p pos c (core_of c ps)))

-- a grain of 0 has no multiples that count
pub split-none : (c : Costs) (ps : List Piece) (p : Piece) → greatest_split c 0 ps p ≡ None
unfolding greatest_split
split-none c ps p = rw (div-zero (p.budget - 1))

none-means : (c : Costs) (ps : List Piece) (p : Piece) → Splits c 0 ps p (greatest_split c 0 ps p)
none-means c ps p = rw (split-none c ps p) (λ x t k allowed. omega (arith, k.some, k.multiple, mul-zero k.times))

split-means : (c : Costs) (g : ℕ) (ps : List Piece) (p : Piece) → Splits c g ps p (greatest_split c g ps p)
split-means c zero ps p = none-means c ps p
split-means c (suc g) ps p = some-means c (suc g) ps p (omega arith)

-- ---- the meaning has one answer

same-cut : (c : Costs) (g : ℕ) (ps : List Piece) (p : Piece) (x w y v : ℕ) → Splits c g ps p (cut_at x w) → Splits c g ps p (cut_at y v) → cut_at x w ≡ cut_at y v
same-cut c g ps p x w y v a b = elim (dec_lt x y) [
  | yes h ↦ absurd (a.1.none_above y b.0 h b.1.candidate b.1.allowed)
  | no h ↦ elim (dec_lt y x) [
    | yes k ↦ absurd (b.1.none_above x a.0 k a.1.candidate a.1.allowed)
    | no k ↦
        let e : x ≡ y = omega arith in
        let f : a.0 ≡ b.0 = least-unique (subst (λ (z : ℕ). Least (Holds (tight_on c ps p z)) a.0) e a.1.allowed.tight) b.1.allowed.tight in
        let h : w ≡ v = omega (arith, a.2, b.2) in
        cc
  ]
]

pub split-unique : (c : Costs) (g : ℕ) (ps : List Piece) (p : Piece) (r s : Option Cut) → Splits c g ps p r → Splits c g ps p s → r ≡ s
split-unique c g ps p (Some s) (Some r) a b = same-cut c g ps p s.budget s.window r.budget r.window a b
split-unique c g ps p (Some s) None a b = absurd (b s.budget a.0 a.1.candidate a.1.allowed)
split-unique c g ps p None (Some s) a b = absurd (a s.budget b.0 b.1.candidate b.1.allowed)
split-unique c g ps p None None a b = refl

pub split-exact : (c : Costs) (g : ℕ) (ps : List Piece) (p : Piece) (s : Option Cut) → (greatest_split c g ps p ≡ s) ↔ Splits c g ps p s
split-exact c g ps p s = (
  (λ e. subst (Splits c g ps p) e (split-means c g ps p)),
  λ h. split-unique c g ps p (greatest_split c g ps p) s (split-means c g ps p) h,
)

-- ---- what a split leaves

-- both parts are records within the sizes, and each passes where it stands
pub record Parts (c : Costs) (ps : List Piece) (p : Piece) (x w : ℕ) : Type 0 where
  pub some : 1 ≤ x
  pub less : x < p.budget
  pub inside : w < p.window
  pub first-sized : Sized (first_piece p x w)
  pub last-sized : Sized (last_piece c p x w)
  pub first_passes : verdict_of c (ps ++ (first_piece p x w ∷ [])) ≡ Passes
  pub last-passes : verdict_of c (last_piece c p x w ∷ []) ≡ Passes

-- the budget is within the tight window: it is part of what has to fit there
tight-holds : (c : Costs) (ps : List Piece) (p : Piece) (x t : ℕ) → Fits c (core_of c ps) p x t → x ≤ t
tight-holds c ps p x t fits = omega (arith, fits.tight.here.fits, tight-parts c (core_of c ps) p x t)

-- a job of the last piece is due where its window ends, and its budget is part of the demand there
alone-live : (q : Charged) → Live (q ∷ []) q.window
unfolding Live
alone-live q = ◌⊎◌.inl (omega (arith, jobs-due-some q q.window (omega arith)))

alone-demand : (b : ℕ) (q : Charged) → q.charge ≤ demand b (q ∷ []) q.window
unfolding load
alone-demand b q = omega (arith, demand-above b (q ∷ []) q.window (omega arith), mul-le-mul_right q.charge (due q))
  where
    due : (q : Charged) → 1 ≤ jobs_due q q.window
    due q = omega (arith, jobs-due-some q q.window (omega arith))

last-window : (c : Costs) (p : Piece) (x w : ℕ) → (charged c (last_piece c p x w)).window ≡ p.window - w
unfolding charged last_piece piece_of
last-window c p x w = refl

last-inside : (c : Costs) (p : Piece) (x w : ℕ) → Sized p → verdict (stall c) (last_alone c p x w) ≡ Passes → p.budget - x ≤ p.window - w
unfolding last_alone
last-inside c p x w ok pass =
    let q = charged c (last_piece c p x w) in
    let recurs : Each Recurs (q ∷ []) = last-recurs c p x w ok in
    let means : Means (stall c) (q ∷ []) Passes = subst (λ (v : Verdict). Means (stall c) (q ∷ []) v) pass (verdict-means (stall c) (q ∷ [])) in
    omega (arith, passes-forever (stall c) (q ∷ []) recurs means q.window (alone-live q), alone-demand (stall c) q, last-window c p x w, last-charge c p x w)

first-size : (p : Piece) (x w : ℕ) → Sized p → 1 ≤ x → x ≤ w → w < p.window → Sized (first_piece p x w)
unfolding first_piece piece_of
first-size p x w ok some fits inside = record {
  budget-some = some;
  budget-fits = fits;
  window-fits = omega arith;
  period-fits = ok.period-fits;
  jitter-fits = ok.jitter-fits;
  preempt-fits = ok.preempt-fits;
  migrate-fits = ok.migrate-fits;
}

last-size : (c : Costs) (p : Piece) (x w : ℕ) → SizedCosts c → Sized p → x < p.budget → p.budget - x ≤ p.window - w → Sized (last_piece c p x w)
unfolding last_piece piece_of
last-size c p x w costs ok less fits = record {
  budget-some = omega arith;
  budget-fits = fits;
  window-fits = omega arith;
  period-fits = ok.period-fits;
  jitter-fits = late-jitter-le c;
  preempt-fits = ok.preempt-fits;
  migrate-fits = ok.migrate-fits;
}

cut_parts : (c : Costs) (g : ℕ) (ps : List Piece) (p : Piece) → SizedCosts c → Sized p → (x w : ℕ) → Splits c g ps p (cut_at x w) → Parts c ps p x w
cut_parts c g ps p costs ok x w splits =
    let t = splits.0 in
    let k = splits.1.candidate in
    let fits = allowed-fits c ps p x t splits.1.allowed in
    let there : verdict (stall c) (last_alone c p x w) ≡ Passes = rw splits.2 fits.there in
    record {
      some = k.some;
      less = k.less;
      inside = omega (arith, splits.2, fits.room);
      first-sized = first-size p x w ok k.some (omega (arith, splits.2, tight-holds c ps p x t fits)) (omega (arith, splits.2, fits.room));
      last-sized = last-size c p x w costs ok k.less (last-inside c p x w ok there);
      first_passes = rw splits.2 splits.1.allowed.first_passes;
      last-passes = last-verdict c ps p x w ∙ there;
    }

pub split_parts : (c : Costs) (g : ℕ) (ps : List Piece) (p : Piece) → SizedCosts c → Sized p → (x w : ℕ) → greatest_split c g ps p ≡ cut_at x w → Parts c ps p x w
split_parts c g ps p costs ok x w e = cut_parts c g ps p costs ok x w ((split-exact c g ps p (cut_at x w)).0 e)

-- ---- C=D

-- costs, J and P are zero
pub record Free (c : Costs) (p : Piece) : Type 0 where
  pub relo-none : c.relo ≡ 0
  pub schedo-none : c.schedo ≡ 0
  pub tseto-none : c.tseto ≡ 0
  pub ipb-none : c.ipb ≡ 0
  pub beto-none : c.beto ≡ 0
  pub migro-none : c.migro ≡ 0
  pub ipio-none : c.ipio ≡ 0
  pub jitter-none : p.jitter ≡ 0
  pub preempt-none : p.preempt ≡ 0

no-interrupts : (c : Costs) (q : Piece) (t : ℕ) → c.relo ≡ 0 → c.tseto ≡ 0 → c.ipio ≡ 0 → interrupts (charged c q) t ≡ 0
unfolding interrupts charged ipi_cost
no-interrupts c q t relo tseto ipio =
    let n = ceil (t + q.jitter) q.period in
    let m = ceil (t + c.ipij) q.period in
    let none : c.relo + c.tseto ≡ 0 = omega arith in
    let nothing : cond (arrives q.kind) c.ipio 0 ≡ 0 = omega (arith, when-le (arrives q.kind) {n = c.ipio} {m = 0} (omega arith)) in
    rw (none, nothing) (omega (arith, mul-zero n, mul-zero m))

none-in-all : (c : Costs) (ps : List Piece) (t : ℕ) → c.relo ≡ 0 → c.tseto ≡ 0 → c.ipio ≡ 0 → total (λ q. interrupts q t) (core_of c ps) ≡ 0
unfolding core_of
none-in-all c [] t relo tseto ipio = refl
none-in-all c (p ∷ ps) t relo tseto ipio = omega (arith, no-interrupts c p t relo tseto ipio, none-in-all c ps t relo tseto ipio)

free-sum : (c : Costs) (ps : List Piece) (p : Piece) → Free c p → (x t : ℕ) → tight_on c ps p x t ≡ x
unfolding tight_on tight_sum stall charged charge first_piece piece_of
free-sum c ps p free x t = omega (arith, none-in-all c (ps ++ (first_piece p x 0 ∷ [])) t free.relo-none free.tseto-none free.ipio-none)

pub tight-is-budget : (c : Costs) (ps : List Piece) (p : Piece) → Free c p → (x : ℕ) → 1 ≤ x → Least (Holds (tight_on c ps p x)) x
tight-is-budget c ps p free x some = record {
  here = record { some = some; fits = omega (arith, free-sum c ps p free x x) };
  none_below = λ k below holds. omega (arith, holds.fits, free-sum c ps p free x k);
}

pub tight-first-budget : (c : Costs) (ps : List Piece) (p : Piece) → Free c p → (x : ℕ) → 1 ≤ x → x + 1 ≤ p.window → tight_first c ps p x ≡ Some x
tight-first-budget c ps p free x some room =
    look (tight_first c ps p x) (first-in c ps p x)
    (subst (λ (f : ℕ → ℕ). Least (Holds f) x) (sum-core c ps p x) (tight-is-budget c ps p free x some))
  where
    look : (f : Option ℕ) → TightIn c (core_of c ps) p x f → Tight c (core_of c ps) p x x → f ≡ Some x
    look (Some w) found tight = ap Some (omega (arith, found.3, free.jitter-none, least-unique found.1 tight))
    look None none tight = absurd (none x tight (omega (arith, free.jitter-none)))
