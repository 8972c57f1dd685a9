-- Working a figure out: block after block, by steps that compute. For stages that are written out, the figure is then
-- proved by computing.
-- Assumes nothing.
use Rattle.std.proofs.Common.{◌≡◌, ℕ, zero, suc, ◌+◌, ◌-◌, ◌<◌, Bool, true, false, cond, ltb, List, length, Option, subst, arith}
use Rattle.std.specs.List.{AllByRecursion}
use Rattle.std.proofs.lemmas.Bool.{ltb-true, ltb-false, cond_both}
use Rattle.stage.specs.Stages.{Stage, Lawful, start_of, stop_of}
use Rattle.path.specs.declared.semantics.Semantics.{Semantics}
use Rattle.path.specs.declared.semantics.Semantics.TheVariants.{LL, LF, FL, FF}
use Rattle.path.specs.Timed.{first_stage, last_stage}
use Rattle.path.specs.Figures.{shown_predecessor, Figure}
use Rattle.path.specs.Periods.{Common, instances_in}
use Rattle.path.specs.Steps.{Hop, hop_along, hops_of, trace_back, route_of, first_block, next_block}
use Rattle.path.proofs.Best.{longest}
use Rattle.path.proofs.Next.{quick_hops, quick_hops_are}
use Rattle.path.proofs.Search.{Counting, from_of, Visit, visit_start, visit_more, visit_same, visit_skip, visit_finish}

-- whether block f has paths that count
abbrev counting : Semantics → ℕ → ℕ → Bool
counting LL first f = true
counting LF first f = true
counting FL first f = ltb first f
counting FF first f = ltb first f

counting_is : (m : Semantics) (first f : ℕ) → counting m first f ≡ true → Counting m first f
counting_is LL first f e = tt
counting_is LF first f e = tt
counting_is FL first f e = ltb-true first f e
counting_is FF first f e = ltb-true first f e

counting_not : (m : Semantics) (first f : ℕ) → counting m first f ≡ false → ¬ Counting m first f
counting_not LL first f e c = let z : ◌≡◌ {A = ℕ} 0 1 = cc in omega arith
counting_not LF first f e c = let z : ◌≡◌ {A = ℕ} 0 1 = cc in omega arith
counting_not FL first f e c = omega (arith, ltb-false first f e)
counting_not FF first f e c = omega (arith, ltb-false first f e)

-- where the search stands: at block `at`, after block `after`, with a best delay, where that is counted from, and its end
pub record State : Type 0 where
  pub at : ℕ
  pub after : ℕ
  pub delay : ℕ
  pub origin : ℕ
  pub last : ℕ

abbrev on : State → Hop → State
on s h = record { at = next_block h s.at; after = s.at; delay = s.delay; origin = s.origin; last = s.last }

abbrev kept : State → Hop → ℕ → ℕ → ℕ → State
kept s h d o l = record { at = next_block h s.at; after = s.at; delay = d; origin = o; last = l }

-- one more block
unfoldable pub visit_one : Semantics → List Stage → Hop → State → State
visit_one m ss h s =
    let o = from_of m s.at s.after in
    let l = longest m h s.at in
    let d = stop_of (last_stage ss) l - start_of (first_stage ss) o in
    cond (counting m (first_block h) s.at) (cond (ltb s.delay d) (kept s h d o l) (on s h)) (on s h)

unfoldable pub visit_many : Semantics → List Stage → Hop → ℕ → State → State
visit_many m ss h zero s = s
visit_many m ss h (suc n) s = visit_many m ss h n (visit_one m ss h s)

abbrev pub start_state : Hop → State
start_state h = record { at = first_block h; after = 0; delay = 0; origin = 0; last = 0 }

abbrev VisitAt : Semantics → List Stage → State → Type 0
VisitAt m ss s = Visit m ss s.at s.after s.delay s.origin s.last

module _ (m : Semantics) (ss : List Stage) (some : 0 < length ss) (ls : AllByRecursion Lawful ss) where
  one_kept : (s : State) → VisitAt m ss s → VisitAt m ss (visit_one m ss (route_of ss) s)
  unfolding visit_one
  one_kept s v =
      let h = route_of ss in
      let o = from_of m s.at s.after in
      let l = longest m h s.at in
      let d = stop_of (last_stage ss) l - start_of (first_stage ss) o in
      cond_both (counting m (first_block h) s.at) (cond (ltb s.delay d) (kept s h d o l) (on s h)) (on s h) (VisitAt m ss)
      (λ c. cond_both (ltb s.delay d) (kept s h d o l) (on s h) (VisitAt m ss)
      (λ e. visit_more m ss some ls s.at s.after s.delay s.origin s.last v (counting_is m (first_block h) s.at c) (ltb-true s.delay d e))
      (λ e. visit_same m ss some ls s.at s.after s.delay s.origin s.last v (counting_is m (first_block h) s.at c) (ltb-false s.delay d e)))
      (λ c. visit_skip m ss some ls s.at s.after s.delay s.origin s.last v (counting_not m (first_block h) s.at c))

  many_kept : (n : ℕ) (s : State) → VisitAt m ss s → VisitAt m ss (visit_many m ss (route_of ss) n s)
  unfolding visit_many
  many_kept zero s v = v
  many_kept (suc n) s v = many_kept n (visit_one m ss (route_of ss) s) (one_kept s v)

-- what is found over given hops: enough blocks visited, and the answer
pub record Found (m : Semantics) (ss : List Stage) (hs : List Hop) (span n delay : ℕ) (predecessor : Option ℕ) (witness : List ℕ) : Type 0 where
  pub enough : ltb (first_block (hop_along hs) + instances_in span (first_stage ss)) (visit_many m ss (hop_along hs) n (start_state (hop_along hs))).at ≡ true
  pub delay_is : (visit_many m ss (hop_along hs) n (start_state (hop_along hs))).delay ≡ delay
  pub predecessor_is : shown_predecessor m (visit_many m ss (hop_along hs) n (start_state (hop_along hs))).origin ≡ predecessor
  pub witness_is : trace_back hs (visit_many m ss (hop_along hs) n (start_state (hop_along hs))).last ≡ witness

found_figure : (m : Semantics) (ss : List Stage) → 0 < length ss → AllByRecursion Lawful ss → (span : ℕ) → Common span ss → (n delay : ℕ) (predecessor : Option ℕ) (witness : List ℕ) → Found m ss (hops_of ss) span n delay predecessor witness → Figure m ss delay predecessor witness
found_figure m ss some ls span c n d p w f =
    let s = visit_many m ss (route_of ss) n (start_state (route_of ss)) in
    let v = many_kept m ss some ls n (start_state (route_of ss)) (visit_start m ss some ls 0) in
    let g = visit_finish m ss some ls span c s.at s.after s.delay s.origin s.last v
    (ltb-true (first_block (route_of ss) + instances_in span (first_stage ss)) s.at f.enough) in
    subst (λ x. Figure m ss x p w) f.delay_is
    (subst (λ x. Figure m ss s.delay x w) f.predecessor_is
    (subst (λ x. Figure m ss s.delay (shown_predecessor m s.origin) x) f.witness_is g))

-- The figure, by computing with the quick hops.
pub figure_found : (m : Semantics) (ss : List Stage) → 0 < length ss → AllByRecursion Lawful ss → (span : ℕ) → Common span ss → (n delay : ℕ) (predecessor : Option ℕ) (witness : List ℕ) → Found m ss (quick_hops ss) span n delay predecessor witness → Figure m ss delay predecessor witness
figure_found m ss some ls span c n d p w f =
    found_figure m ss some ls span c n d p w (subst (λ hs. Found m ss hs span n d p w) (quick_hops_are ss ls) f)
