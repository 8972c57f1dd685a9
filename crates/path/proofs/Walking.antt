-- The steps along a route, as the loops of the code take them: ahead over what is left of its rows at their end, and
-- back over what is left at their front.
-- Assumes nothing.
use Rattle.std.proofs.Common.{◌≡◌, ℕ, ◌+◌, ◌-◌, ◌*◌, ◌^◌, ◌<◌, ◌≤◌, List, [], ◌∷◌, ◌++◌, length, get_or, take, drop, sym, refl, ap, ◌∙◌, subst, arith}
use Rattle.std.proofs.lemmas.List.{length-take-le, get_or-take, get_or-drop, take_more, take_all, map_push}
use Rattle.stage.specs.Stages.{Stage, start_of}
use Rattle.stage.specs.declared.lawful.LawfulRow.{LawfulRow}
use Rattle.stage.specs.LawfulRow.{stage_in}
use Rattle.path.specs.Given.{stages_of}
use Rattle.path.specs.Timed.{last_or, first_stage, last_stage, first_of}
use Rattle.path.specs.Steps.{Hop, ahead_of, back_of, hops_from, hop_along, route_of, trace_back, witness_to}
use Rattle.path.proofs.Given.{all_laws, last_at, laws_in, stages_length}
use Rattle.path.proofs.Routes.{positive_inside}
use Rattle.path.proofs.Search.{tied}
use Rattle.path.proofs.Sizes.{ahead_soon, back_earlier}

-- The walk ahead from instance i of the first row has come to instance x of the first of the rows that are left.
pub record Walked (rows rest : List LawfulRow) (i x : ℕ) : Type 0 where
  pub some : 0 < length rest
  pub same : (route_of (stages_of rest)).ahead x ≡ (route_of (stages_of rows)).ahead i
  pub last : last_stage (stages_of rest) ≡ last_stage (stages_of rows)
  pub early : start_of (first_stage (stages_of rest)) x + length rest * 200_000_000 ≤ 2 ^ 36 + length rows * 200_000_000

-- one turn, at a window of two of the rows that are left
module _ (rows rest pair : List LawfulRow) (size : ℕ) (two : size ≡ 2) (room : size ≤ length rest) (pair_is : pair ≡ take size rest) (i x : ℕ) (k : Walked rows rest i x) where
  front : pair ≡ take 2 rest
  front = pair_is ∙ ap (λ n. take n rest) two

  pub walked_more : (after : List LawfulRow) (n : ℕ) (a b : LawfulRow) → after ≡ drop 1 rest
      → n ≡ ahead_of (stage_in (get_or pair 0 a)) (stage_in (get_or pair 1 b)) x → Walked rows after i n
  walked_more after n a b after_is e =
      subst (λ l. Walked rows l i n) (sym after_is)
      (more rest (omega arith) k (subst (λ p. n ≡ ahead_of (stage_in (get_or p 0 a)) (stage_in (get_or p 1 b)) x) front e))
    where
      more : (rest : List LawfulRow) → 2 ≤ length rest → Walked rows rest i x
          → n ≡ ahead_of (stage_in (get_or (take 2 rest) 0 a)) (stage_in (get_or (take 2 rest) 1 b)) x → Walked rows (drop 1 rest) i n
      more [] h k e = absurd (omega arith)
      more (w ∷ []) h k e = absurd (omega arith)
      more (w ∷ (r ∷ rest)) h k e =
          let lw = laws_in w in
          let lr = laws_in r in
          record {
            some = omega arith;
            same = ap (route_of (stages_of (r ∷ rest))).ahead e ∙ k.same;
            last = k.last;
            early = omega (arith, ahead_soon (stage_in w) (stage_in r) lw lr x, lw.cycle_high, lr.cycle_high, k.early, ap (start_of (stage_in r)) e);
          }

-- One more stage behind the others.

last_or-push : (s : Stage) (ss : List Stage) (r : Stage) → last_or s (ss ++ r ∷ []) ≡ r
last_or-push s [] r = refl
last_or-push s (t ∷ ss) r = last_or-push t ss r

back-push : (s : Stage) (ss : List Stage) (r : Stage) (c : ℕ)
    → (hop_along (hops_from s (ss ++ r ∷ []))).back c ≡ (hop_along (hops_from s ss)).back (back_of (last_or s ss) r c)
back-push s [] r c = refl
back-push s (t ∷ ss) r c = ap (back_of s t) (back-push t ss r c)

trace_back-push : (s : Stage) (ss : List Stage) (r : Stage) (j : ℕ)
    → trace_back (hops_from s (ss ++ r ∷ [])) j ≡ trace_back (hops_from s ss) (back_of (last_or s ss) r (j + 1) - 1) ++ j ∷ []
unfolding trace_back
trace_back-push s [] r j = refl
trace_back-push s (t ∷ ss) r j =
    subst (λ l. (back_of s t (first_of l + 1) - 1) ∷ l
    ≡ (back_of s t (first_of (trace_back (hops_from t ss) (back_of (last_or t ss) r (j + 1) - 1)) + 1) - 1)
    ∷ (trace_back (hops_from t ss) (back_of (last_or t ss) r (j + 1) - 1) ++ j ∷ []))
    (sym (trace_back-push t ss r j))
    (ap (λ x. (back_of s t (x + 1) - 1) ∷ (trace_back (hops_from t ss) (back_of (last_or t ss) r (j + 1) - 1) ++ j ∷ []))
    (first_of-append (hops_from t ss) (back_of (last_or t ss) r (j + 1) - 1) (j ∷ [])))
  where
    first_of-append : (hs : List Hop) (x : ℕ) (l : List ℕ) → first_of (trace_back hs x ++ l) ≡ first_of (trace_back hs x)
    first_of-append [] x l = refl
    first_of-append (h ∷ hs) x l = refl

-- The same of a whole route.
module _ (ss : List Stage) (some : 0 < length ss) (r : Stage) where
  pub last_stage-push : last_stage (ss ++ r ∷ []) ≡ r
  last_stage-push = go ss
    where
      go : (ss : List Stage) → last_stage (ss ++ r ∷ []) ≡ r
      go [] = refl
      go (s ∷ ss) = last_or-push s ss r

  pub route_back-push : (c : ℕ) → (route_of (ss ++ r ∷ [])).back c ≡ (route_of ss).back (back_of (last_stage ss) r c)
  route_back-push c = go ss some
    where
      go : (ss : List Stage) → 0 < length ss → (route_of (ss ++ r ∷ [])).back c ≡ (route_of ss).back (back_of (last_stage ss) r c)
      go [] h = absurd (omega arith)
      go (s ∷ ss) h = back-push s ss r c

  pub witness_to-push : (j : ℕ) → witness_to (ss ++ r ∷ []) j ≡ witness_to ss (back_of (last_stage ss) r (j + 1) - 1) ++ j ∷ []
  witness_to-push j = go ss some
    where
      go : (ss : List Stage) → 0 < length ss → witness_to (ss ++ r ∷ []) j ≡ witness_to ss (back_of (last_stage ss) r (j + 1) - 1) ++ j ∷ []
      go [] h = absurd (omega arith)
      go (s ∷ ss) h = trace_back-push s ss r j

-- The walk back from instance j of the last row has come to instance x of the last of the rows that are left.
pub record Traced (rows front : List LawfulRow) (j x : ℕ) : Type 0 where
  pub some : 0 < length front
  pub same : (route_of (stages_of front)).back (x + 1) ≡ (route_of (stages_of rows)).back (j + 1)
  pub early : start_of (last_stage (stages_of front)) x < 2 ^ 40

-- one turn, at a window of two of the rows that are left
module _ (rows front pair : List LawfulRow) (size : ℕ) (two : size ≡ 2) (room : size ≤ length front) (pair_is : pair ≡ drop (length front - size) front)
    (j x : ℕ) (there : 0 < (route_of (stages_of rows)).back (j + 1)) (k : Traced rows front j x) (a b : LawfulRow) where
  abbrev before : List LawfulRow
  before = take (length front - 1) front

  abbrev writer : Stage
  writer = stage_in (get_or pair 0 a)

  abbrev reader : Stage
  reader = stage_in (get_or pair 1 b)

  long : length before ≡ length front - 1
  long = length-take-le (length front - 1) front (omega arith)

  before_some : 0 < length (stages_of before)
  before_some = omega (arith, stages_length before, long)

  row_at : (n : ℕ) (d : LawfulRow) → get_or pair n d ≡ get_or front (length front - 2 + n) d
  row_at n d =
      ap (λ p. get_or p n d) (pair_is ∙ ap (λ m. drop (length front - m) front) two) ∙ get_or-drop (length front - 2) front n d

  front_is : front ≡ before ++ get_or pair 1 b ∷ []
  front_is =
      sym (take_all (length front - 1 + 1) front (omega arith)) ∙ take_more front (length front - 1) b (omega arith)
      ∙ ap (λ y. before ++ y ∷ []) (ap (λ n. get_or front n b) (omega arith) ∙ sym (row_at 1 b))

  stages_is : stages_of front ≡ stages_of before ++ reader ∷ []
  stages_is = ap stages_of front_is ∙ map_push stage_in before (get_or pair 1 b)

  writer_is : last_stage (stages_of before) ≡ writer
  writer_is =
      last_at before a (omega (arith, long))
      ∙ ap stage_in (ap (λ n. get_or before n a) (omega (arith, long)) ∙ get_or-take (length front - 1) front (length front - 2) a (omega arith)
      ∙ ap (λ n. get_or front n a) (omega arith) ∙ sym (row_at 0 a))

  steps_is : (c : ℕ) → (route_of (stages_of front)).back c ≡ (route_of (stages_of before)).back (back_of writer reader c)
  steps_is c =
      ap (λ ss. (route_of ss).back c) stages_is ∙ route_back-push (stages_of before) before_some reader c
      ∙ ap (λ s. (route_of (stages_of before)).back (back_of s reader c)) writer_is

  reader_is : last_stage (stages_of front) ≡ reader
  reader_is = ap last_stage stages_is ∙ last_stage-push (stages_of before) before_some reader

  pub traced_early : start_of (stage_in (get_or pair 1 b)) x < 2 ^ 40
  traced_early = omega (arith, k.early, ap (λ s. start_of s x) reader_is)

  pub traced_there : 0 < back_of (stage_in (get_or pair 0 a)) (stage_in (get_or pair 1 b)) (x + 1)
  traced_there =
      positive_inside (route_of (stages_of before)) (tied (stages_of before) before_some (all_laws before)) (back_of writer reader (x + 1))
      (omega (arith, steps_is (x + 1), k.same))

  module _ (after : List LawfulRow) (n : ℕ) (after_is : after ≡ take (length front - 1) front)
      (e : n + 1 ≡ back_of (stage_in (get_or pair 0 a)) (stage_in (get_or pair 1 b)) (x + 1)) where
    pub traced_more : Traced rows after j n
    traced_more =
        subst (λ l. Traced rows l j n) (sym after_is)
        (record {
          some = omega (arith, long);
          same = ap (route_of (stages_of before)).back e ∙ sym (steps_is (x + 1)) ∙ k.same;
          early = omega (
            arith,
            ap (λ s. start_of s n) writer_is,
            back_earlier writer reader (laws_in (get_or pair 0 a)) (laws_in (get_or pair 1 b)) x traced_there,
            ap (λ m. start_of writer (m - 1)) e,
            ap (start_of writer) (n_is n),
            traced_early,
          );
        })
      where
        n_is : (n : ℕ) → n + 1 - 1 ≡ n
        n_is n = omega arith

    pub traced_witness : witness_to (stages_of front) x ≡ witness_to (stages_of after) n ++ x ∷ []
    traced_witness =
        ap (λ ss. witness_to ss x) stages_is ∙ witness_to-push (stages_of before) before_some reader x
        ∙ ap (λ s. witness_to (stages_of before) (back_of s reader (x + 1) - 1) ++ x ∷ []) writer_is
        ∙ ap (λ m. witness_to (stages_of before) m ++ x ∷ []) (omega arith)
        ∙ ap (λ l. witness_to (stages_of l) n ++ x ∷ []) (sym after_is)
