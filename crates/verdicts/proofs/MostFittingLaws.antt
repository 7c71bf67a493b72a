-- Laws of the walk down that lowers a charge: what a piece q may be charged beside the core qs with the stall b.
-- Assumes nothing.
--
--   squeezed-one, most-fitting-squeezed the greatest charge that fits in a span: there is one, and the definition gives it
--   most-fitting-is, squeezed-is        from one to the other
--   fitting-all, -pos, -some            the greatest charge of which so many fit
--   level-over, level-calls, level-fits what one length tells
--   passed_start, passed-look, passed-done    the walk down, one look more
--   lowers-none, lowers-look, lowers-below    what a look leaves: nothing; less, with a second look to come; or what goes on below
--   asked-before                        what is held at the last length, where the look was before it
use mathlib.Core.Bool.{Bool, true, false}
use mathlib.Core.Path.{◌≡◌, refl, subst}
use mathlib.Core.List.{List}
use Prim.Native.Nat.{ℕ, zero, suc, ◌+◌, ◌*◌, ◌-◌, ◌/◌, ◌≤◌, ◌<◌, zero-le}
use native.Mathlib.Nat.{mul-le-mul_right, mul-le-mul_left, zero-mul, le-div_iff_mul-le, mul-div-le}
use native.Mathlib.Decide.{dec_lt}
use native.Mathlib.Omega.{arith}
use borrow.Author.Tests.{ltb-true, ltb-false}
use lib.Dec.{ltb}
use Rattle.demand.specs.declared.Charged.{Charged}
use Rattle.verdicts.specs.declared.most_fitting.Lowering.{Lowering}
use Rattle.demand.specs.Sizes.{Tells}
use Rattle.demand.specs.Demand.{jobs_due, interrupts, largest_window, demand}
use Rattle.verdicts.specs.MostFitting.{beside, Squeezed, FitsIn, all_fit, most_fitting}
use Rattle.verdicts.specs.Ways.ChargeWalk.{FitsInto, Levels, Stands, Lowers, last_below}
use Rattle.demand.proofs.DemandLaws.{jobs-due-mono, interrupts-mono, demand-mono}
use Rattle.verdicts.specs.declared.most_fitting.Look.{Look}

-- ---- the greatest charge that fits in a span

module _ (b : ℕ) (qs : List Charged) (q : Charged) where
  no_more : (f a e r s : ℕ) → Squeezed b qs q f a e r → Squeezed b qs q f a e s → r ≤ s
  no_more f a e zero s one two = zero-le
  no_more f a e (suc r) s one two = two.greatest (suc r) one.most (one.fits (omega arith))

  pub squeezed-one : (f a e r s : ℕ) → Squeezed b qs q f a e r → Squeezed b qs q f a e s → r ≡ s
  squeezed-one f a e r s one two = omega (arith, no_more f a e r s one two, no_more f a e s r two one)

  all-fit-tells : (f a k : ℕ) → Tells (FitsIn b qs q f a (a + k)) (all_fit b qs q f a k)
  all-fit-tells f a zero = λ u low high. absurd (omega arith)
  all-fit-tells f a (suc k) = look (ltb (a + k) (beside b qs q f (a + k))) refl (all-fit-tells f a k)
    where
      wider : beside b qs q f (a + k) ≤ a + k → (o : Bool) → Tells (FitsIn b qs q f a (a + k)) o → Tells (FitsIn b qs q f a (a + suc k)) o
      wider fine true fits = λ u low high. elim (dec_lt u (a + k)) [
        | yes below ↦ fits u low below
        | no above ↦ (let e : u ≡ a + k = omega arith in rw e fine)
      ]
      wider fine false fails = λ fits. fails (λ u low high. fits u low (omega arith))

      look : (o : Bool) → ltb (a + k) (beside b qs q f (a + k)) ≡ o → Tells (FitsIn b qs q f a (a + k)) (all_fit b qs q f a k)
          → Tells (FitsIn b qs q f a (a + suc k)) (elim o [ true ↦ false | false ↦ all_fit b qs q f a k ])
      look true e below = λ fits. omega (arith, ltb-true (a + k) (beside b qs q f (a + k)) e, fits (a + k) (omega arith) (omega arith))
      look false e below = wider (ltb-false (a + k) (beside b qs q f (a + k)) e) (all_fit b qs q f a k) below

  pub most-fitting-squeezed : (a l f : ℕ) → Squeezed b qs q f a (a + l) (most_fitting b qs q a l f)
  unfolding most_fitting
  most-fitting-squeezed a l zero = record { most = zero-le; fits = λ some. absurd (omega arith); greatest = λ y le fits. le }
  most-fitting-squeezed a l (suc f) = look (all_fit b qs q (suc f) a l) (all-fit-tells (suc f) a l) (most-fitting-squeezed a l f)
    where
      look : (o : Bool) → Tells (FitsIn b qs q (suc f) a (a + l)) o → Squeezed b qs q f a (a + l) (most_fitting b qs q a l f)
          → Squeezed b qs q (suc f) a (a + l) (elim o [ true ↦ suc f | false ↦ most_fitting b qs q a l f ])
      look true fits below = record { most = omega arith; fits = λ some. fits; greatest = λ y le k. le }
      look false fails below = record {
        most = omega (arith, below.most);
        fits = below.fits;
        greatest = λ y le k. elim (dec_lt f y) [
          | yes more ↦ (let e : y ≡ suc f = omega arith in absurd (fails (subst (λ (z : ℕ). FitsIn b qs q z a (a + l)) e k)))
          | no less ↦ below.greatest y (omega arith) k
        ];
      }

  pub squeezed-is : (a l f r : ℕ) → r ≡ most_fitting b qs q a l f → Squeezed b qs q f a (a + l) r
  squeezed-is a l f r is = rw is (most-fitting-squeezed a l f)

  pub most-fitting-is : (a l f r : ℕ) → Squeezed b qs q f a (a + l) r → r ≡ most_fitting b qs q a l f
  most-fitting-is a l f r squeezed = squeezed-one f a (a + l) r (most_fitting b qs q a l f) squeezed (most-fitting-squeezed a l f)

-- ---- one length

pub fitting-all : (f jobs room : ℕ) → jobs * f ≤ room → FitsInto f jobs room f
fitting-all f jobs room h = record { most = omega arith; fits = h; greatest = λ y le k. le }

pub fitting-pos : (f jobs room : ℕ) → room < jobs * f → 0 < jobs
fitting-pos f zero room h = omega (arith, zero-mul f)
fitting-pos f (suc jobs) room h = omega arith

pub fitting-some : (f jobs room : ℕ) → room < jobs * f → FitsInto f jobs room (room / jobs)
fitting-some f jobs room h =
    let pos : 0 < jobs = fitting-pos f jobs room h in
    record {
      most = most pos;
      fits = mul-div-le room jobs;
      greatest = λ y le k. (le-div_iff_mul-le pos).1 (omega (arith, k));
    }
  where
    most : 0 < jobs → room / jobs ≤ f
    most pos = elim (dec_lt f (room / jobs)) [
      | yes more ↦ absurd (omega (arith, mul-div-le room jobs, mul-le-mul_right jobs more))
      | no few ↦ omega arith
    ]

module _ (b : ℕ) (qs : List Charged) (q : Charged) where
  pub beside_at : (f u : ℕ) → beside b qs q f u ≡ demand b qs u + interrupts q u + jobs_due q u * f
  unfolding beside
  beside_at f u = refl

  module _ (f t : ℕ) where
    none-fits : ((y : ℕ) → t < beside b qs q y t) → Levels b qs q f t (record { charge = 0; rest = 0; jobs = 0 })
    none-fits over = record {
      most = zero-le;
      caps = λ y le fits. absurd (omega (arith, over y));
      fits = zero-le;
      asks = λ some. absurd (omega arith);
    }

    pub level-over : (g : ℕ) → g ≡ demand b qs t → t < g → Levels b qs q f t (record { charge = 0; rest = 0; jobs = 0 })
    level-over g asked over = none-fits (λ y. omega (arith, beside_at y t))

    pub level-calls : (g i : ℕ) → g ≡ demand b qs t → i ≡ interrupts q t → g ≤ t → t - g < i → Levels b qs q f t (record { charge = 0; rest = 0; jobs = 0 })
    level-calls g i asked calls fine over = none-fits (λ y. omega (arith, beside_at y t))

    module _ (g i n : ℕ) (asked : g ≡ demand b qs t) (calls : i ≡ interrupts q t) (jobs : n ≡ jobs_due q t) where
      level-at : (y : ℕ) → beside b qs q y t ≡ g + i + n * y
      level-at y = rw (beside_at y t, asked, calls, jobs) refl

      pub level-fits : g ≤ t → i ≤ t - g → (y : ℕ) → FitsInto f n (t - g - i) y → Levels b qs q f t (record { charge = y; rest = g + i; jobs = n })
      level-fits fine left y fit = record {
        most = fit.most;
        caps = λ z le fits. fit.greatest z le (omega (arith, level-at z));
        fits = omega (arith, fit.fits);
        asks = λ some. level-at;
      }

  -- ---- the walk down

  -- the walk from e has come to `end`, and has left r of f
  pub record Passed (f a end e r : ℕ) : Type 0 where
    pub most : r ≤ f
    pub caps : (y : ℕ) → y ≤ f → FitsIn b qs q y a e → y ≤ r
    pub calm : 1 ≤ r → FitsIn b qs q r end e

  pub passed_start : (f a e : ℕ) → Passed f a e e f
  passed_start f a e = record { most = omega arith; caps = λ y le fits. le; calm = λ some u low high. absurd (omega arith) }

  pub passed-done : (f a l end r : ℕ) → end ≤ a → Passed f a end (a + l) r → r ≡ most_fitting b qs q a l f
  passed-done f a l end r over passed = most-fitting-is b qs q a l f r (record {
    most = passed.most;
    fits = λ some u low high. passed.calm some u (omega arith) high;
    greatest = passed.caps;
  })

  beside-less : (u : ℕ) {y z : ℕ} → y ≤ z → beside b qs q y u ≤ beside b qs q z u
  unfolding beside
  beside-less u h = omega (arith, mul-le-mul_left (jobs_due q u) h)

  -- ---- one look

  pub stands-last : (a f end : ℕ) → Stands b qs q a (last_below f end)
  stands-last a f end = record { within = λ h. (omega arith, omega arith); asks = λ h. absurd (omega arith); fits = λ h. absurd (omega arith) }

  module _ (a : ℕ) (s : Lowering) (some : a < s.end) (stands : Stands b qs q a s) (v : Look) (level : Levels b qs q s.charge s.look v) where
    looked : (y : ℕ) → y ≤ s.charge → FitsIn b qs q y a s.end → y ≤ v.charge
    looked y le fits = level.caps y le (fits s.look (stands.within some).0 (stands.within some).1)

    pub lowers-none : v.charge ≡ 0 → Lowers b qs q a s (last_below 0 0)
    lowers-none none = record {
      most = zero-le;
      caps = λ y le fits. omega (arith, looked y le fits);
      calm = λ one. absurd (omega arith);
      down = zero-le;
      less = omega arith;
      stands = stands-last a 0 0;
    }

    -- what is asked for at the last length: as it was held, or by the look itself
    pub asked-before : s.look < s.end - 1 → s.rest + s.jobs * v.charge ≤ s.end - 1
    asked-before early = omega (arith, stands.fits early, mul-le-mul_left s.jobs level.most)

    pub asked-last : s.end - 1 ≤ s.look → 1 ≤ v.charge → (y : ℕ) → beside b qs q y (s.end - 1) ≡ v.rest + v.jobs * y
    asked-last last one y =
        let is : s.end - 1 ≡ s.look = omega (arith, (stands.within some).1) in
        rw is (level.asks one y)

    -- less of the charge fits at the last length
    pub lowers-look : (x : ℕ) → s.end - 1 ≤ s.look → 1 ≤ v.charge → v.charge < s.charge → a ≤ x → x ≤ s.end - 1
        → Lowers b qs q a s (record { charge = v.charge; end = s.end; look = x; rest = v.rest; jobs = v.jobs })
    lowers-look x last one fewer low high = record {
      most = level.most;
      caps = looked;
      calm = λ one u from below. absurd (omega arith);
      down = omega arith;
      less = omega arith;
      stands = record {
        within = λ h. (low, omega arith);
        asks = λ early. asked-last last one;
        fits = λ early. omega (arith, level.fits, (stands.within some).1);
      };
    }

    beside-mono : (f : ℕ) {t u : ℕ} → t ≤ u → (largest_window qs ≤ u → largest_window qs ≤ t) → beside b qs q f t ≤ beside b qs q f u
    unfolding beside
    beside-mono f {t} {u} h side =
        omega (arith, demand-mono qs b h side, interrupts-mono q h, mul-le-mul_right f (jobs-due-mono q h))

    -- the walk goes on below `end`
    module _ (w end rest jobs : ℕ) (widest : w ≡ largest_window qs)
        (next : (rest + jobs * v.charge ≤ end) × (end ≤ s.end - 1) × (w ≤ s.end - 1 → w ≤ end)) where
      pub lowers-below : ((y : ℕ) → beside b qs q y (s.end - 1) ≡ rest + jobs * y) → Lowers b qs q a s (last_below v.charge end)
      lowers-below asks = record {
        most = level.most;
        caps = looked;
        calm = λ one u from below.
            omega (
              arith,
              next.0,
              asks v.charge,
              beside-mono v.charge {t = u} {u = s.end - 1} (omega arith) (λ wide. omega (arith, widest, next.2 (omega (arith, widest)))),
            );
        down = omega (arith, next.1);
        less = omega (arith, next.1, level.most);
        stands = stands-last a v.charge end;
      }

  -- ---- one look more

  pub passed-look : (f a e : ℕ) (s r : Lowering) → s.end ≤ e → Passed f a s.end e s.charge → Lowers b qs q a s r → Passed f a r.end e r.charge
  passed-look f a e s r within passed low = record {
    most = omega (arith, low.most, passed.most);
    caps = λ y le fits. low.caps y (passed.caps y le fits) (λ u from below. fits u from (omega arith));
    calm = λ one u from below. elim (dec_lt u s.end) [
      | yes under ↦ low.calm one u from under
      | no above ↦ omega (arith, passed.calm (omega (arith, low.most)) u (omega arith) below, beside-less u low.most)
    ];
  }
