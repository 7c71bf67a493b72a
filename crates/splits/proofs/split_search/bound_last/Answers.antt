-- `split_search::bound_last` meets its contract: the verdict on the last piece, and where it is overloaded its excess there and at the least live length.
use mathlib.Core.Path.{◌≡◌, sym, ap, ◌∙◌}
use mathlib.Core.List.{List, [], ◌∷◌}
use Prim.Native.Nat.{ℕ, ◌+◌, ◌-◌}
use native.Mathlib.Omega.{arith}
use Rattle.demand.specs.declared.Charged.{Charged}
use Rattle.demand.specs.Charge.{stall}
use Rattle.demand.specs.Demand.{largest_window, least_live, demand}
use Rattle.demand.specs.Ways.ChargedSplit.{last_alone}
use Rattle.demand.proofs.ChargedSplitLaws.{last-largest, last-undecided}
use Rattle.splits.proofs.SplitSearchLaws.{judged-last}
use Rattle.splits.proofs.SkipLaws.{over-within, last-falls}
use Rattle.splits.proofs.split_search.bound_last.Goals as goal

pub excess_at-late-requires : goal.excess_at-late-requires
excess_at-late-requires c =
    let s = c.args in
    let g = s.given in
    let judged =
    judged-last g.costs g.task s.x s.w c.stall-b.result (c.last.result ∷ []) c.stall-b.ensures.exact c.last.ensures.exact c.verdict.result (c.verdict.ensures.within c.stall-b.ensures.within) in (
      c.stall-b.ensures.within,
      sym (ap (λ (qs : List Charged). largest_window qs) c.last.ensures.exact ∙ last-largest g.costs g.task s.x s.w),
      over-within g.costs g.task g.sized s.x s.w c.in-Overloaded.t (sym judged ∙ c.in-Overloaded.is),
    )

pub excess_at-soon-requires : goal.excess_at-soon-requires
excess_at-soon-requires c =
    let s = c.args in
    let g = s.given in (
      c.stall-b.ensures.within,
      sym (ap (λ (qs : List Charged). largest_window qs) c.last.ensures.exact ∙ last-largest g.costs g.task s.x s.w),
      omega (arith, c.least_live.ensures.within),
    )

pub returns-in-Undecided : goal.returns-in-Undecided
returns-in-Undecided c =
    let s = c.args in
    let g = s.given in
    let judged =
    judged-last g.costs g.task s.x s.w c.stall-b.result (c.last.result ∷ []) c.stall-b.ensures.exact c.last.ensures.exact c.verdict.result (c.verdict.ensures.within c.stall-b.ensures.within) in
    (c.requires.0, λ y v less pass. last-undecided g.costs g.task s.x y s.w v less (sym judged ∙ c.in-Undecided.is) pass)

pub returns-in-Overloaded : goal.returns-in-Overloaded
returns-in-Overloaded c =
    let s = c.args in
    let g = s.given in
    let alone = c.last.result ∷ [] in
    let judged =
    judged-last g.costs g.task s.x s.w c.stall-b.result alone c.stall-b.ensures.exact c.last.ensures.exact c.verdict.result (c.verdict.ensures.within c.stall-b.ensures.within) in
    let t = c.in-Overloaded.t in
    let a = c.least_live.result in
    let asked : (u : ℕ) → demand c.stall-b.result alone u ≡ demand (stall g.costs) (last_alone g.costs g.task s.x s.w) u =
    λ u. rw (c.stall-b.ensures.exact, c.last.ensures.exact) in
    last-falls g.costs g.task g.sized s.x s.w t (sym judged ∙ c.in-Overloaded.is) c.requires.1 c.requires.2
    a c.excess_at-late.result c.excess_at-soon.result c.max.result
    (c.least_live.ensures.exact ∙ ap (λ (qs : List Charged). least_live qs) c.last.ensures.exact)
    (c.excess_at-late.ensures ∙ ap (λ (g : ℕ). g - (t + 1)) (asked t))
    (c.excess_at-soon.ensures ∙ ap (λ (g : ℕ). g - (a + 1)) (asked a)) c.max.ensures
