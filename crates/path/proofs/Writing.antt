-- The walk back along a route, which writes the path that it takes.
-- Assumes nothing.
use Rattle.std.proofs.Common.{◌≡◌, ℕ, ◌+◌, ◌-◌, ◌<◌, ◌≤◌, List, [], ◌∷◌, ◌++◌, length, get_or, take, drop, set, sym, refl, ap, ◌∙◌, append_assoc, add-one, arith}
use Rattle.std.proofs.lemmas.List.{get_or-set_same, drop-set-lt, drop_more}
use Rattle.stage.specs.declared.lawful.LawfulRow.{LawfulRow}
use Rattle.path.specs.Given.{stages_of}
use Rattle.path.specs.Steps.{trace_back, witness_to}
use Rattle.path.proofs.Walking.{Traced}

-- The walk back from instance j of the last row has come to instance x of the last of the rows that are left, and has
-- written its instances from there on; what stands behind the path is as it was.
pub record Writing (rows front : List LawfulRow) (j x : ℕ) (path old : List ℕ) : Type 0 where
  pub within : length front ≤ length rows
  pub written : witness_to (stages_of front) x ++ take (length rows - length front) (drop (length front) path) ≡ witness_to (stages_of rows) j
  pub here : get_or path (length front - 1) 0 ≡ x
  pub rest : drop (length rows) path ≡ drop (length rows) old

take-drop_more : (path : List ℕ) (m q : ℕ) → m < length path → take (q + 1) (drop m path) ≡ get_or path m 0 ∷ take q (drop (m + 1) path)
take-drop_more path m q h = ap (take (q + 1)) (drop_more path m 0 h) ∙ ap (λ n. take n (get_or path m 0 ∷ drop (m + 1) path)) (add-one q)

module _ (rows : List LawfulRow) (j : ℕ) (old : List ℕ) (room : length rows ≤ length old) where
  pub writing_more : (front after : List LawfulRow) (x n k : ℕ) (path : List ℕ) → length path ≡ length old → 2 ≤ length front
      → length after ≡ length front - 1 → k ≡ length after - 1
      → witness_to (stages_of front) x ≡ witness_to (stages_of after) n ++ x ∷ []
      → Writing rows front j x path old → Writing rows after j n (set path k n) old
  writing_more front after x n k path long two shorter k_is e w =
      record {
        within = omega (arith, w.within);
        written =
            let m : ℕ = length after in
            let q : ℕ = length rows - length front in
            let left : length rows - m ≡ q + 1 = omega (arith, w.within) in
            let next : m + 1 ≡ length front = omega arith in
            let here : get_or path m 0 ≡ x = ap (λ i. get_or path i 0) shorter ∙ w.here in
            ap (λ l. witness_to (stages_of after) n ++ take (length rows - m) l) (drop-set-lt m path k n (omega arith))
            ∙ ap (λ r. witness_to (stages_of after) n ++ take r (drop m path)) left
            ∙ ap (λ l. witness_to (stages_of after) n ++ l) (take-drop_more path m q (omega (arith, w.within)))
            ∙ ap (λ y. witness_to (stages_of after) n ++ y ∷ take q (drop (m + 1) path)) here
            ∙ ap (λ i. witness_to (stages_of after) n ++ x ∷ take q (drop i path)) next
            ∙ sym (append_assoc (witness_to (stages_of after) n) (x ∷ []) (take q (drop (length front) path)))
            ∙ ap (λ l. l ++ take q (drop (length front) path)) (sym e)
            ∙ w.written;
        here = ap (λ i. get_or (set path k n) i 0) (sym k_is) ∙ get_or-set_same path k n 0 (omega (arith, w.within));
        rest = drop-set-lt (length rows) path k n (omega (arith, w.within)) ∙ w.rest;
      }

  pub writing_all : (front : List LawfulRow) (x : ℕ) (path : List ℕ) → length path ≡ length old → length front < 2 → Traced rows front j x
      → Writing rows front j x path old → take (length rows) path ≡ witness_to (stages_of rows) j
  unfolding trace_back
  writing_all [] x path long one t w = absurd (omega (arith, t.some))
  writing_all (s ∷ (r ∷ front)) x path long one t w = absurd (omega arith)
  writing_all (s ∷ []) x path long one t w =
      let n : length rows ≡ length rows - 1 + 1 = omega (arith, w.within) in
      ap (λ i. take i path) n ∙ take-drop_more path 0 (length rows - 1) (omega (arith, w.within))
      ∙ ap (λ y. y ∷ take (length rows - 1) (drop 1 path)) w.here ∙ witness_alone ∙ w.written
    where
      witness_alone : x ∷ take (length rows - 1) (drop 1 path) ≡ witness_to (stages_of (s ∷ [])) x ++ take (length rows - 1) (drop 1 path)
      witness_alone = refl
