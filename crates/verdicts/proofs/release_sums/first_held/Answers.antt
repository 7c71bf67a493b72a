-- `release_sums::first_held` meets its contract: after j turns the sum is that at l + j, and nothing below the next length holds.
use Prim.Native.Nat.{◌+◌, ◌<◌}
use mathlib.Core.Path.{◌≡◌, ap, ◌∙◌}
use native.Mathlib.Omega.{arith}
use lib.ListN.{get_or, take}
use Rattle.std.proofs.lemmas.List.{get_or-take, length-take}
use Rattle.verdicts.proofs.ReleaseSumLaws.{clear-past}
use Rattle.verdicts.proofs.release_sums.first_held.Goals as goal

pub overflow_add-sum : goal.overflow_add-sum
overflow_add-sum c =
    let ms = c.args.marks.now in
    let j = c.loop-grown.grown-index in
    let low : j < 1023 = omega (arith, length-take 1023 ms, c.loop-grown-test.true) in
    omega (arith, c.requires.2 j, get_or-take 1023 ms j 0 low)

pub returns-then-sum-m : goal.returns-then-sum-m
returns-then-sum-m c =
    let ms = c.args.marks.now in
    let o = c.loop-grown in
    let j = o.grown-index in
    let low : j < 1023 = omega (arith, length-take 1023 ms, c.loop-grown-test.true) in
    record {
      lower_bound = (omega arith, omega arith);
      by_index = λ f marks asked clear. (
        (o.invariant.2 f marks asked clear).0,
        λ near. omega (arith, get_or-take 1023 ms j 0 low, (o.invariant.2 f marks asked clear).1, marks j (omega arith), ap f o.invariant.0),
      );
    }

pub loop-grown-preserved : goal.loop-grown-preserved
loop-grown-preserved c =
    let ms = c.args.marks.now in
    let o = c.loop-grown in
    let j = o.grown-index in
    let low : j < 1023 = omega (arith, length-take 1023 ms, c.loop-grown-test.true) in
    let at = get_or-take 1023 ms j 0 low in (
      omega arith,
      omega (arith, at, c.requires.2 j),
      λ f marks asked clear.
          (let here : o.sum + get_or (take 1023 ms) j 0 ≡ f o.m =
          omega (arith, at, (o.invariant.2 f marks asked clear).1, marks j (omega arith), ap f o.invariant.0) in
          (clear-past f o.m (o.invariant.2 f marks asked clear).0 (omega arith), here ∙ ap f (omega arith))),
    )

pub returns : goal.returns
returns c =
    let o = c.loop-grown in
    let long = length-take 1023 c.args.marks.now in
    record {
      lower_bound = (omega arith, omega (arith, long));
      by_index = λ f marks asked clear. ((o.invariant.2 f marks asked clear).0, λ near. absurd (omega (arith, long)));
    }
