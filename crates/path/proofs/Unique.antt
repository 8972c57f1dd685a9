-- A list of lawful stages has exactly one figure.
-- Assumes nothing.
use Rattle.std.proofs.Common.{◌≡◌, ℕ, zero, suc, ◌+◌, ◌-◌, ◌*◌, ◌/◌, ◌%◌, ◌<◌, List, [], ◌∷◌, length, Option, sym, refl, ap, ◌∙◌, subst, ⊎_elim, mul-le-mul_right, mul_assoc, div-add-mod', arith}
use native.Mathlib.Nat.{mul-mod_left, mul-mod_right}
use Rattle.std.specs.List.{AllByRecursion}
use Rattle.std.proofs.lemmas.Bool.{cases_lt}
use Rattle.stage.specs.Stages.{Stage, Lawful, start_of, stop_of}
use Rattle.path.specs.declared.semantics.Semantics.{Semantics}
use Rattle.path.specs.declared.semantics.Semantics.TheVariants.{LL, LF, FL, FF}
use Rattle.path.specs.Timed.{last_or}
use Rattle.path.specs.Figures.{Origin, shown_predecessor, Figure}
use Rattle.path.specs.Laws.{Answer, SameAnswer}
use Rattle.path.specs.Periods.{Whole, Common, instances_in}
use Rattle.path.specs.Steps.{Hop, route_of, witness_to, first_block, next_block}
use Rattle.path.proofs.Hops.{Tied}
use Rattle.path.proofs.Blocks.{Opens, first_opens, first_alone, next_later, next_opens, next_before}
use Rattle.path.proofs.Best.{From, longest, Clock, BestSoFar, best_none, best_skip, best_more, best_same}
use Rattle.path.proofs.Shift.{route_clock}
use Rattle.path.proofs.Figures.{route_tied, best_finish}

-- At most one.

origin_only : (m : Semantics) (ss : List Stage) (p : List ℕ) (o q : ℕ) → Origin m ss p o → Origin m ss p q → o ≡ q
origin_only LL ss p o q a b = omega arith
origin_only LF ss p o q a b = omega arith
origin_only FL ss p o q a b = omega (arith, a.latest q b.earlier b.begins, b.latest o a.earlier a.begins)
origin_only FF ss p o q a b = omega (arith, a.latest q b.earlier b.begins, b.latest o a.earlier a.begins)

module _ (m : Semantics) (ss : List Stage) (d e : ℕ) (p q : Option ℕ) (v w : List ℕ) (a : Figure m ss d p v) (b : Figure m ss e q w) where
  same_delay : d ≡ e
  same_delay =
      omega (
        arith,
        a.largest w b.origin b.counts b.from_origin,
        b.takes,
        b.largest v a.origin a.counts a.from_origin,
        a.takes,
      )

  same_witness : v ≡ w
  same_witness =
      ⊎_elim
      (λ x. ⊎_elim (λ y. absurd (omega arith)) (λ y. y) (b.smallest v a.origin a.counts a.from_origin (sym a.takes ∙ same_delay)))
      (λ x. sym x)
      (a.smallest w b.origin b.counts b.from_origin (sym b.takes ∙ sym same_delay))

  pub figure_only : SameAnswer d e p q v w
  figure_only =
      record {
        delay = same_delay;
        predecessor = a.answers ∙ ap (shown_predecessor m) (origin_only m ss w a.origin b.origin
            (subst (λ x. Origin m ss x a.origin) same_witness a.from_origin) b.from_origin) ∙ sym b.answers;
        witness = same_witness;
      }

-- At least one: visit block after block.

from_next : (m : Semantics) (h : Hop) → Tied h → (f : ℕ) → Opens h f → (q : ℕ) × From m h (next_block h f) q
from_next LL h t f o = (next_block h f, refl)
from_next LF h t f o = (next_block h f, refl)
from_next FL h t f o = (f, next_before h t f o)
from_next FF h t f o = (f, next_before h t f o)

record Visited (m : Semantics) (h : Hop) (begin finish : ℕ → ℕ) (bound : ℕ) : Type 0 where
  upto : ℕ
  d : ℕ
  o : ℕ
  l : ℕ
  best : BestSoFar m h begin finish upto d o l
  far : bound < upto

module _ (m : Semantics) (h : Hop) (t : Tied h) (begin finish : ℕ → ℕ) (k : Clock h begin finish) (bound : ℕ) where
  visit_blocks : (fuel f q d o l : ℕ) → Opens h f → From m h f q → BestSoFar m h begin finish f d o l → bound < f + fuel → Visited m h begin finish bound
  visit_blocks zero f q d o l p w b far = record { upto = f; d = d; o = o; l = l; best = b; far = omega arith }
  visit_blocks (suc fuel) f q d o l p w b far =
      let (r, v) = from_next m h t f p in
      let up = next_later h t f in
      ⊎_elim
      (λ g. visit_blocks fuel (next_block h f) r (finish (longest m h f) - begin q) q (longest m h f) (next_opens h t f) v
      (best_more m h t begin finish k f d o l q p w b g) (omega arith))
      (λ g. visit_blocks fuel (next_block h f) r d o l (next_opens h t f) v
      (best_same m h t begin finish k f d o l q p w b g) (omega arith))
      (cases_lt d (finish (longest m h f) - begin q))

  visit_second : ((q : ℕ) → ¬ From m h (first_block h) q) → Visited m h begin finish bound
  visit_second none =
      let (r, v) = from_next m h t (first_block h) (first_opens h t) in
      visit_blocks (bound + 1) (next_block h (first_block h)) r 0 0 0 (next_opens h t (first_block h)) v
      (best_skip m h t begin finish k (first_block h) 0 0 0 (best_none m h t begin finish k) none) (omega arith)

  visit_first : (q : ℕ) → From m h (first_block h) q → Visited m h begin finish bound
  visit_first q w = visit_blocks (bound + 1) (first_block h) q 0 0 0 (first_opens h t) w (best_none m h t begin finish k) (omega arith)

visit_all : (m : Semantics) (h : Hop) → Tied h → (begin finish : ℕ → ℕ) → Clock h begin finish → (bound : ℕ) → Visited m h begin finish bound
visit_all LL h t begin finish k bound = visit_first LL h t begin finish k bound (first_block h) refl
visit_all LF h t begin finish k bound = visit_first LF h t begin finish k bound (first_block h) refl
visit_all FL h t begin finish k bound = visit_second FL h t begin finish k bound (first_alone h t)
visit_all FF h t begin finish k bound = visit_second FF h t begin finish k bound (first_alone h t)

figure_some_span : (m : Semantics) (s : Stage) (ss : List Stage) → Lawful s → AllByRecursion Lawful ss → (span : ℕ) → Common span (s ∷ ss) → Answer m (s ∷ ss)
figure_some_span m s ss l ls span c =
    let v = visit_all m (route_of (s ∷ ss)) (route_tied s ss l ls) (start_of s) (stop_of (last_or s ss)) (route_clock s ss l ls)
    (first_block (route_of (s ∷ ss)) + instances_in span s) in
    record {
      delay = v.d;
      predecessor = shown_predecessor m v.o;
      witness = witness_to (s ∷ ss) v.l;
      figure = best_finish s ss l ls m span c v.upto v.d v.o v.l v.best v.far;
    }

-- a common multiple: the product of the cycles
product : List Stage → ℕ
product [] = 1
product (s ∷ ss) = s.cycle * product ss

whole_more : (s : Stage) (k span : ℕ) → Whole span s → Whole (k * span) s
whole_more s k span w =
    let q : span ≡ span / s.cycle * s.cycle = omega (arith, div-add-mod' span s.cycle) in
    let e : k * span ≡ k * (span / s.cycle) * s.cycle = ap (λ x. k * x) q ∙ sym (mul_assoc k (span / s.cycle) s.cycle) in
    subst (λ x. x % s.cycle ≡ 0) (sym e) (mul-mod_left (k * (span / s.cycle)) s.cycle)

all_whole_more : (ss : List Stage) (k span : ℕ) → AllByRecursion (Whole span) ss → AllByRecursion (Whole (k * span)) ss
all_whole_more [] k span w = tt
all_whole_more (s ∷ ss) k span w = (whole_more s k span w.0, all_whole_more ss k span w.1)

product_common : (ss : List Stage) → AllByRecursion Lawful ss → Common (product ss) ss
unfolding product
product_common [] ls = record { positive = omega arith; whole = tt }
product_common (s ∷ ss) ls =
    let c = product_common ss ls.1 in
    record {
      positive = omega (arith, mul-le-mul_right (product ss) ls.0.cycle_low, c.positive);
      whole = (mul-mod_right s.cycle (product ss), all_whole_more ss s.cycle (product ss) c.whole);
    }

pub figure_some : (m : Semantics) (ss : List Stage) → 0 < length ss → AllByRecursion Lawful ss → Answer m ss
figure_some m [] h ls = absurd (omega arith)
figure_some m (s ∷ ss) h ls = figure_some_span m s ss ls.0 ls.1 (product (s ∷ ss)) (product_common (s ∷ ss) ls)
