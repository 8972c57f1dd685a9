-- From the best on the route of hops to the figure of the stages.
-- Assumes nothing.
use Rattle.std.proofs.Common.{◌≡◌, ℕ, ◌+◌, ◌-◌, ◌<◌, ◌≤◌, List, ◌∷◌, sym, refl, ap, ◌∙◌, subst, inl, inr, ⊎_elim, arith}
use Rattle.std.specs.List.{AllByRecursion}
use Rattle.std.proofs.lemmas.Bool.{cases_lt}
use Rattle.stage.specs.Stages.{Stage, Lawful, start_of, stop_of}
use Rattle.path.specs.declared.semantics.Semantics.{Semantics}
use Rattle.path.specs.declared.semantics.Semantics.TheVariants.{LL, LF, FL, FF}
use Rattle.path.specs.Timed.{Timed, first_of, last_of, last_or, Begins, Predecessor}
use Rattle.path.specs.Figures.{Soonest, Counts, Origin, shown_predecessor, Figure}
use Rattle.path.specs.Periods.{Common, instances_in}
use Rattle.path.specs.Steps.{hops_from, route_of, witness_to, first_block}
use Rattle.path.proofs.Hops.{Tied, Joins, joins, joins_from, joins_to}
use Rattle.path.proofs.Routes.{along_tied, path_joins, path_only, trace_last, trace_first, trace_path}
use Rattle.path.proofs.Along.{hops_tied, timed_is_path}
use Rattle.path.proofs.Blocks.{Opens, Before, opens_joins, joins_opens, first_ends}
use Rattle.path.proofs.Best.{Chosen, From, Takes, BestSoFar}
use Rattle.path.proofs.Period.{BestOfAll, best_all}
use Rattle.path.proofs.Shift.{route_clock, route_repeats}

module _ (s : Stage) (ss : List Stage) (l : Lawful s) (ls : AllByRecursion Lawful ss) where
  pub route_tied : Tied (route_of (s ∷ ss))
  route_tied = along_tied (hops_from s ss) (hops_tied s ss l ls)

  pub timed_joins : (p : List ℕ) → Timed (s ∷ ss) p → Joins (route_of (s ∷ ss)) (first_of p) (last_of p)
  timed_joins p t = path_joins (hops_from s ss) p ((timed_is_path s ss l ls p).0 t)

  pub timed_only : (p : List ℕ) → Timed (s ∷ ss) p → p ≡ witness_to (s ∷ ss) (last_of p)
  timed_only p t = path_only (hops_from s ss) p ((timed_is_path s ss l ls p).0 t)

  pub witness_last : (j : ℕ) → last_of (witness_to (s ∷ ss) j) ≡ j
  witness_last j = trace_last (hops_from s ss) 0 j

  pub witness_first : (f j : ℕ) → Joins (route_of (s ∷ ss)) f j → first_of (witness_to (s ∷ ss) j) ≡ f
  witness_first f j e = omega (arith, trace_first (hops_from s ss) (hops_tied s ss l ls) j (omega arith))

  pub witness_timed : (f j : ℕ) → Joins (route_of (s ∷ ss)) f j → Timed (s ∷ ss) (witness_to (s ∷ ss) j)
  witness_timed f j e =
      (timed_is_path s ss l ls (witness_to (s ∷ ss) j)).1 (trace_path (hops_from s ss) (hops_tied s ss l ls) j (omega arith))

  pub begins_opens : (f : ℕ) → Begins (s ∷ ss) f → Opens (route_of (s ∷ ss)) f
  begins_opens f b =
      let (p, t, e) = b in
      subst (Opens (route_of (s ∷ ss))) e (joins_opens (route_of (s ∷ ss)) route_tied (first_of p) (last_of p) (timed_joins p t))

  pub opens_begins : (f : ℕ) → Opens (route_of (s ∷ ss)) f → Begins (s ∷ ss) f
  opens_begins f o =
      let e = opens_joins (route_of (s ∷ ss)) route_tied f o in
      let j : ℕ = (route_of (s ∷ ss)).ahead f in
      (witness_to (s ∷ ss) j, witness_timed f j e, witness_first f j e)

  pub predecessor_before : (f b : ℕ) → Predecessor (s ∷ ss) f b → Before (route_of (s ∷ ss)) f b
  predecessor_before f b p =
      record {
        earlier = p.earlier;
        opens = begins_opens b p.begins;
        latest = λ c k o. p.latest c k (opens_begins c o);
      }

  pub before_predecessor : (f b : ℕ) → Before (route_of (s ∷ ss)) f b → Predecessor (s ∷ ss) f b
  before_predecessor f b p =
      record {
        earlier = p.earlier;
        begins = opens_begins b p.opens;
        latest = λ c k o. p.latest c k (begins_opens c o);
      }

  soonest_ends : (p : List ℕ) → Timed (s ∷ ss) p → Soonest (s ∷ ss) p → last_of p ≡ (route_of (s ∷ ss)).ahead (first_of p)
  soonest_ends p t u =
      first_ends (route_of (s ∷ ss)) route_tied (first_of p) (last_of p) (timed_joins p t)
      (λ k e. subst (λ x. last_of p ≤ x) (witness_last k)
      (u (witness_to (s ∷ ss) k) (witness_timed (first_of p) k e) (witness_first (first_of p) k e)))

  ends_soonest : (f j : ℕ) → Joins (route_of (s ∷ ss)) f j → j ≡ (route_of (s ∷ ss)).ahead f → Soonest (s ∷ ss) (witness_to (s ∷ ss) j)
  ends_soonest f j e h q t same =
      let a = joins_from (route_of (s ∷ ss)) route_tied (first_of q) (last_of q) (timed_joins q t) in
      let b : (route_of (s ∷ ss)).ahead (first_of q) ≡ (route_of (s ∷ ss)).ahead f = ap (route_of (s ∷ ss)).ahead (same ∙ witness_first f j e) in
      omega (arith, witness_last j)

  counts_timed : (m : Semantics) (p : List ℕ) → Counts m (s ∷ ss) p → Timed (s ∷ ss) p
  counts_timed LL p c = c
  counts_timed LF p c = c.0
  counts_timed FL p c = c.0
  counts_timed FF p c = c.0

  counts_chosen : (m : Semantics) (p : List ℕ) → Counts m (s ∷ ss) p → Chosen m (route_of (s ∷ ss)) (first_of p) (last_of p)
  counts_chosen LL p c = tt
  counts_chosen LF p c = soonest_ends p c.0 c.1
  counts_chosen FL p c = tt
  counts_chosen FF p c = soonest_ends p c.0 c.1

  origin_from : (m : Semantics) (p : List ℕ) (o : ℕ) → Origin m (s ∷ ss) p o → From m (route_of (s ∷ ss)) (first_of p) o
  origin_from LL p o h = h
  origin_from LF p o h = h
  origin_from FL p o h = predecessor_before (first_of p) o h
  origin_from FF p o h = predecessor_before (first_of p) o h

  -- a path that counts, on the route
  pub counts_takes : (m : Semantics) (p : List ℕ) (o : ℕ) → Counts m (s ∷ ss) p → Origin m (s ∷ ss) p o → Takes m (route_of (s ∷ ss)) (first_of p) (last_of p) o
  counts_takes m p o c h =
      let e = timed_joins p (counts_timed m p c) in
      record {
        low = joins_from (route_of (s ∷ ss)) route_tied (first_of p) (last_of p) e;
        high = joins_to (route_of (s ∷ ss)) route_tied (first_of p) (last_of p) e;
        chosen = counts_chosen m p c;
        origin = origin_from m p o h;
      }

  pub takes_joins : (m : Semantics) (f j o : ℕ) → Takes m (route_of (s ∷ ss)) f j o → Joins (route_of (s ∷ ss)) f j
  takes_joins m f j o a = joins (route_of (s ∷ ss)) route_tied f j a.low a.high

  -- and back
  takes_preceded : (f j o : ℕ) → Joins (route_of (s ∷ ss)) f j → Before (route_of (s ∷ ss)) f o → Predecessor (s ∷ ss) (first_of (witness_to (s ∷ ss) j)) o
  takes_preceded f j o e b =
      subst (λ x. Predecessor (s ∷ ss) x o) (sym (witness_first f j e)) (before_predecessor f o b)

  pub takes_counts : (m : Semantics) (f j o : ℕ) → Takes m (route_of (s ∷ ss)) f j o → Counts m (s ∷ ss) (witness_to (s ∷ ss) j)
  takes_counts LL f j o a = let e = takes_joins LL f j o a in witness_timed f j e
  takes_counts LF f j o a = let e = takes_joins LF f j o a in (witness_timed f j e, ends_soonest f j e a.chosen)
  takes_counts FL f j o a = let e = takes_joins FL f j o a in (witness_timed f j e, (o, takes_preceded f j o e a.origin))
  takes_counts FF f j o a =
      let e = takes_joins FF f j o a in
      (witness_timed f j e, ends_soonest f j e a.chosen, (o, takes_preceded f j o e a.origin))

  pub takes_origin : (m : Semantics) (f j o : ℕ) → Takes m (route_of (s ∷ ss)) f j o → Origin m (s ∷ ss) (witness_to (s ∷ ss) j) o
  takes_origin LL f j o a = let e = takes_joins LL f j o a in a.origin ∙ sym (witness_first f j e)
  takes_origin LF f j o a = let e = takes_joins LF f j o a in a.origin ∙ sym (witness_first f j e)
  takes_origin FL f j o a = takes_preceded f j o (takes_joins FL f j o a) a.origin
  takes_origin FF f j o a = takes_preceded f j o (takes_joins FF f j o a) a.origin

  pub best_figure : (m : Semantics) (d o j : ℕ) → BestOfAll m (route_of (s ∷ ss)) (start_of s) (stop_of (last_or s ss)) d o j → Figure m (s ∷ ss) d (shown_predecessor m o) (witness_to (s ∷ ss) j)
  best_figure m d o j b =
      record {
        counts = takes_counts m b.first j o b.takes;
        origin = o;
        from_origin = takes_origin m b.first j o b.takes;
        takes = b.lasts ∙ ap (λ x. stop_of (last_or s ss) x - start_of s o) (sym (witness_last j));
        answers = refl;
        largest = λ p q c h. b.largest (first_of p) (last_of p) q (counts_takes m p q c h);
        smallest = λ p q c h e.
            let low = b.smallest (first_of p) (last_of p) q (counts_takes m p q c h) e in
            ⊎_elim (λ k. inl (omega (arith, witness_last j)))
            (λ k. inr (timed_only p (counts_timed m p c) ∙ ap (witness_to (s ∷ ss)) (omega arith)))
            (cases_lt j (last_of p));
      }

  -- The end of the search: once the first block moved by the span has been visited, the best so far is the figure.
  pub best_finish : (m : Semantics) (span : ℕ) → Common span (s ∷ ss) → (upto d o j : ℕ) → BestSoFar m (route_of (s ∷ ss)) (start_of s) (stop_of (last_or s ss)) upto d o j → first_block (route_of (s ∷ ss)) + instances_in span s < upto → Figure m (s ∷ ss) d (shown_predecessor m o) (witness_to (s ∷ ss) j)
  best_finish m span c upto d o j b far =
      best_figure m d o j
      (best_all (route_of (s ∷ ss)) route_tied (start_of s) (stop_of (last_or s ss)) (instances_in span s)
      (instances_in span (last_or s ss)) span (route_repeats s ss l ls span c) m (route_clock s ss l ls) upto d o j b far)
