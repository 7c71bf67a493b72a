-- Laws of the hunts: what a hunt finds, and that hunts lead to the least slack. Of any demand g that does not fall on either side of w.
-- Assumes nothing.
--
--   core-rises                                      the demand of a core is such a one
--   test-moves                                      the test of a bar, on either side
--   quiet-more                                      a step passes over lengths only that are not overloaded
--   hit-scans, quiet-scans, hunt-hit, hunt-none     what is found is what the verdict's scan finds
--   bar-is                                          the bar as the code has it
--   leads-start, leads-hit, leads-none, leads-low   how the search for the least slack begins, goes on and ends
--   over-hit, over-stretch, calm-stretch, calm-none      and what it tells of overloaded lengths on the way
use mathlib.Core.Path.{◌≡◌, refl, sym}
use mathlib.Core.List.{List}
use Prim.Native.Nat.{ℕ, ◌+◌, ◌-◌, ◌≤◌, ◌<◌}
use native.Mathlib.Decide.{dec_lt}
use native.Mathlib.Omega.{arith}
use borrow.Author.Tests.{lt-ltb, le-ltb}
use lib.Dec.{ltb}
use Rattle.demand.specs.declared.Charged.{Charged}
use Rattle.demand.specs.declared.Verdict.TheVariants.{Passes, Overloaded}
use Rattle.demand.specs.Demand.{demand, largest_window}
use Rattle.demand.specs.Verdict.{scan}
use Rattle.demand.specs.Why.{slack, LeastSlack}
use Rattle.demand.proofs.DemandLaws.{demand-mono}
use Rattle.demand.proofs.VerdictLaws.{scan-is}
use Rattle.verdicts.specs.Ways.SlackHunt.{Rises, raised, Quiet, Hit, Level, Leads}

pub core-rises : (b : ℕ) (qs : List Charged) → Rises (demand b qs) (largest_window qs)
core-rises b qs t u up side = demand-mono qs b {t = t} {u = u} up side

-- ---- a hunt

pub test-moves : (t x bar : ℕ) → x ≤ t → ltb (t - x) bar ≡ ltb t (x + bar)
test-moves t x bar h = elim (dec_lt (t - x) bar) [
  | yes k ↦ rw (lt-ltb (t - x) bar k, lt-ltb t (x + bar) (omega arith)) refl
  | no k ↦ rw (le-ltb (t - x) bar (omega arith), le-ltb t (x + bar) (omega arith)) refl
]

pub quiet-more : (g : ℕ → ℕ) (w bar : ℕ) → Rises g w → (t low end : ℕ) → raised g bar t ≤ low → (w ≤ t → w ≤ low) → Quiet (raised g bar) (t + 1) end
    → Quiet (raised g bar) low end
quiet-more g w bar rises t low end fits side quiet u from below = elim (dec_lt t u) [
  | yes above ↦ quiet u (omega arith) below
  | no under ↦ omega (arith, rises u t (omega arith) (λ wide. omega (arith, side wide)))
]

module _ (b : ℕ) (qs : List Charged) (a l : ℕ) where
  pub hit-scans : (t : ℕ) → Hit (demand b qs) a l t → Overloaded t ≡ scan b qs a l
  hit-scans t hit = scan-is b qs a l (Overloaded t) (record { from = hit.from; below = hit.below; over = hit.over; calm = hit.quiet })

  pub quiet-scans : Quiet (demand b qs) a (a + l) → Passes ≡ scan b qs a l
  quiet-scans quiet = scan-is b qs a l Passes quiet

  -- with no bar
  pub hunt-hit : (t : ℕ) → Hit (raised (demand b qs) 0) a l t → Overloaded t ≡ scan b qs a l
  hunt-hit t hit = hit-scans t
      (record { from = hit.from; below = hit.below; over = omega (arith, hit.over); quiet = λ u from below. omega (arith, hit.quiet u from below) })

  pub hunt-none : Quiet (raised (demand b qs) 0) a (a + l) → Passes ≡ scan b qs a l
  hunt-none quiet = quiet-scans (λ u from below. omega (arith, quiet u from below))

-- ---- to the least slack

pub bar-is : (g : ℕ → ℕ) (best x y : ℕ) → x ≡ g best → y ≡ best - x → y + 1 ≡ slack g best + 1
unfolding slack
bar-is g best x y e f = omega (arith, e, f)

pub leads-start : (g : ℕ → ℕ) (a l : ℕ) → 1 ≤ l → Leads g a l a (a + l)
leads-start g a l some =
    record { from = omega arith; upto = omega arith; below = omega arith; inside = omega arith; least = λ u past below. absurd (omega arith) }

module _ (g : ℕ → ℕ) (w a l best end : ℕ) (lead : Leads g a l best end) where
  pub leads-hit : (t v : ℕ) → Rises g w → Hit (raised g (slack g best + 1)) a (end - a) t → Level g w a t v → Leads g a l v v
  unfolding slack
  leads-hit t v rises hit level = record {
    from = level.from;
    upto = omega arith;
    below = omega (arith, hit.below, level.upto, lead.inside);
    inside = omega (arith, hit.below, level.upto, lead.inside);
    least = λ u past near. elim (dec_lt t u) [
      | no low ↦ omega (arith, level.same, rises u t (omega arith) (λ wide. omega (arith, level.side wide)))
      | yes high ↦ elim (dec_lt u end) [
        | yes inner ↦ omega (arith, hit.over, level.same, level.upto, hit.quiet u (omega arith) (omega arith))
        | no outer ↦ omega (arith, hit.over, level.same, level.upto, lead.least u (omega arith) near)
      ]
    ];
  }

  pub leads-none : Quiet (raised g (slack g best + 1)) a (a + (end - a)) → LeastSlack g a l best
  unfolding slack
  leads-none quiet = record {
    from = lead.from;
    below = lead.below;
    least = λ u from near. elim (dec_lt u end) [ yes inner ↦ omega (arith, quiet u from (omega arith)) | no outer ↦ lead.least u (omega arith) near ];
    shortest = λ u from less. omega (arith, lead.upto, quiet u from (omega (arith, lead.upto)));
  }

  pub leads-low : end ≤ a → LeastSlack g a l best
  leads-low low = record {
    from = lead.from;
    below = lead.below;
    least = λ u from near. lead.least u (omega arith) near;
    shortest = λ u from less. absurd (omega (arith, lead.upto));
  }

-- ---- with the overloaded lengths told on the way

module _ (g : ℕ → ℕ) (w a l best end : ℕ) (lead : Leads g a l best end) (calm : Quiet g end (a + l)) where
  -- above a hit nothing is overloaded
  pub above_hit : (bar t : ℕ) → 1 ≤ bar → Hit (raised g bar) a (end - a) t → Quiet g (t + 1) (a + l)
  above_hit bar t some hit u from below = elim (dec_lt u end) [
    | yes inner ↦ omega (arith, hit.quiet u (omega arith) (omega arith))
    | no outer ↦ calm u (omega arith) below
  ]

  -- the stretch from v to t has one demand
  flat : (t v : ℕ) → Rises g w → Level g w a t v → (u : ℕ) → v ≤ u → u ≤ t → g u ≡ g t
  flat t v rises level u from upto =
      let low = rises v u from (λ wide. level.side (omega arith)) in
      let high = rises u t upto (λ wide. omega (arith, level.side wide)) in
      omega (arith, level.same)

  module _ (bar t : ℕ) (some : 1 ≤ bar) (hit : Hit (raised g bar) a (end - a) t) where
    pub over-hit : t < g t → Hit g a l t
    over-hit over = record {
      from = hit.from;
      below = omega (arith, hit.below, lead.inside);
      over = over;
      quiet = above_hit bar t some hit;
    }

    module _ (v : ℕ) (rises : Rises g w) (level : Level g w a t v) (fits : g t ≤ t) where
      pub over-stretch : v < g t → Hit g a l (g t - 1) × (g t ≡ g (g t - 1))
      over-stretch over =
          let one : g (g t - 1) ≡ g t = flat t v rises level (g t - 1) (omega arith) (omega arith) in (
            record {
              from = omega (arith, level.from);
              below = omega (arith, hit.below, lead.inside);
              over = omega (arith, one);
              quiet = λ u from below. elim (dec_lt t u) [
                | yes high ↦ above_hit bar t some hit u (omega arith) below
                | no low ↦ omega (arith, flat t v rises level u (omega arith) (omega arith))
              ];
            },
            sym one,
          )

      pub calm-stretch : g t ≤ v → Quiet g v (a + l)
      calm-stretch room u from below = elim (dec_lt t u) [
        | yes high ↦ above_hit bar t some hit u (omega arith) below
        | no low ↦ omega (arith, flat t v rises level u from (omega arith))
      ]

  pub calm-none : (bar : ℕ) → Quiet (raised g bar) a (a + (end - a)) → Quiet g a (a + l)
  calm-none bar quiet u from below = elim (dec_lt u end) [
    | yes inner ↦ omega (arith, quiet u from (omega arith))
    | no outer ↦ calm u (omega arith) below
  ]
