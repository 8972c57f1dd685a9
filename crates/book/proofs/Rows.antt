-- The row that is copied from a stage's answers means that stage.
-- Assumes nothing.
use Rattle.std.proofs.Common.{◌≡◌, ℕ, ◌+◌, ◌-◌, ◌<◌, ◌≤◌, ltb, true, List, [], ◌∷◌, ◌++◌, map, length, get_or, take, is_some, IsSome, IfSome, Some, None, Option, sym, refl, ap, ◌∙◌, subst, arith, below_more, MatchOption}
use Rattle.std.proofs.lemmas.List.{ext_get_or, get_or_append_left, get_or_push, map-append, take_more}
use Rattle.stage.specs.LawfulRow.{stage_in}
use Rattle.path.specs.Given.{stages_of}
use Rattle.std.specs.Option.{option_map}
use Rattle.std.proofs.lemmas.Bool.{both_ways, cond_both, cond-true, lt-ltb}
use Rattle.stage.specs.Stages.{Stage, Lawful, count_of, mark_of}
use Rattle.stage.specs.Rows.{stage_of}
use Rattle.stage.specs.declared.row.Row.{Row}
use Rattle.stage.specs.declared.lawful.LawfulRow.{LawfulRow}
use Rattle.platform.specs.declared.record.Record.{Record}
use Rattle.platform.specs.Platforms.{Sound, described, marked}
use Rattle.platform.specs.Records.{record_stage}
use Rattle.platform.specs.Soundness.{record_lawful}
use Rattle.arrayvec.specs.ArrayVec.{ArrayVec}
use Rattle.book.specs.declared.table.Table.{Table}
use Rattle.book.specs.Keeping.{Keeps, seen}
use Rattle.book.specs.Ledgers.{entry_stage, present_stages}
use Rattle.book.specs.Tasks.{held_under}
use Rattle.book.proofs.Slots.{held_in_range}

-- each entry's stage keeps the laws
pub entry_lawful : (meaning : ℕ → Option Stage) → ((n : ℕ) → Sound n (meaning n)) → (t : Table) (r : ArrayVec ℕ) → Keeps t r
    → (e : ℕ) → IfSome (entry_stage (seen meaning t r) e) Lawful
entry_lawful meaning sound t r keeps e =
    cond_both (ltb e 128) _ _ (λ o. IfSome o Lawful)
    (λ h. held (held_under t.slots e) refl) (λ h. (sound (e - 128)).lawful)
  where
    held : (o : Option Record) → held_under t.slots e ≡ o → IfSome (option_map record_stage o) Lawful
    held None h = tt
    held (Some x) h = record_lawful x (held_in_range t.slots e x keeps.ranged (sym h))

-- what `describe` answers of a stage
pub record Describes (o : Option Stage) (c k r : ℕ) : Type 0 where
  pub stage : Stage
  pub present : o ≡ Some stage
  pub cycle : c ≡ stage.cycle
  pub count : k ≡ count_of stage
  pub rank : r ≡ stage.rank

pub describes : (o : Option Stage) (c k r : ℕ) → Some (c, k, r) ≡ described o → Describes o c k r
describes None c k r e = let z : ◌≡◌ {A = ℕ} 0 1 = cc in absurd (omega arith)
describes (Some s) c k r e =
    let same : (c, k, r) ≡ (s.cycle, count_of s, s.rank) = parts e in
    record {
      stage = s;
      present = refl;
      cycle = ap (λ p. p.0) same;
      count = ap (λ p. p.1) same;
      rank = ap (λ p. p.2) same;
    }
  where
    parts : {x y : ℕ × ℕ × ℕ} → Some x ≡ Some y → x ≡ y
    parts e = cc

-- a mark below the count is answered
pub mark_there : (o : Option Stage) (s : Stage) (a : ℕ) → o ≡ Some s → a < count_of s → marked o a ≡ Some (mark_of s a)
mark_there o s a e h = ap (λ x. marked x a) e ∙ cond-true _ _ _ (lt-ltb a (count_of s) h)

-- one more mark is copied
pub marks_more : (o : Option Stage) (marks : List (ℕ × ℕ)) (a : ℕ) (m : ℕ × ℕ) → length marks ≡ a
    → ((b : ℕ) → b < a → Some (get_or marks b (0, 0)) ≡ marked o b) → Some m ≡ marked o a
    → (b : ℕ) → b < a + 1 → Some (get_or (marks ++ m ∷ []) b (0, 0)) ≡ marked o b
marks_more o marks a m long before here =
    below_more _ a
    (λ b l. ap Some (get_or_append_left marks (m ∷ []) (0, 0) b (omega arith)) ∙ before b l)
    (ap Some (get_or_push marks m (0, 0) a long) ∙ here)

-- where all marks are copied, they are the stage's
pub all_copied : (o : Option Stage) (cycle count rank : ℕ) (marks : List (ℕ × ℕ)) → IfSome o Lawful
    → Some (cycle, count, rank) ≡ described o → length marks ≡ count
    → ((b : ℕ) → b < count → Some (get_or marks b (0, 0)) ≡ marked o b)
    → (o ≡ Some (record { cycle = cycle; rank = rank; marks = marks })) × (count ≤ 48)
all_copied o cycle count rank marks lawful e long copied =
    let d = describes o cycle count rank e in
    let laws : Lawful d.stage = subst (λ x. IfSome x Lawful) d.present lawful in
    let same : marks ≡ d.stage.marks =
    ext_get_or (0, 0) marks d.stage.marks (omega (arith, d.count))
    (λ b h. mark o d.stage d.present b (omega (arith, d.count)) (copied b (omega arith))) in (
      d.present ∙ (λ i. Some (record { cycle = sym d.cycle i; rank = sym d.rank i; marks = sym same i })),
      omega (arith, d.count, laws.count_high),
    )
  where
    parts : {x y : ℕ × ℕ} → Some x ≡ Some y → x ≡ y
    parts e = cc

    mark : (o : Option Stage) (s : Stage) → o ≡ Some s → (b : ℕ) → b < count_of s
        → Some (get_or marks b (0, 0)) ≡ marked o b → get_or marks b (0, 0) ≡ mark_of s b
    mark o s p b h e = parts (e ∙ mark_there o s b p h)

-- so the test of their row against the laws accepts it
pub row_accepted : (o : Option Stage) (row : Row) (s : Stage) (r : Option LawfulRow) → IfSome o Lawful → o ≡ Some s → stage_of row ≡ s
    → MatchOption r (Lawful (stage_of row) → ⊥) (λ l. l.row ≡ row) → MatchOption r (o ≡ None) (λ l. o ≡ Some (stage_in l))
row_accepted o row s None lawful there same refused =
    absurd (refused (subst Lawful (sym same) (subst (λ x. IfSome x Lawful) there lawful)))
row_accepted o row s (Some l) lawful there same kept = there ∙ ap Some (sym same ∙ ap stage_of (sym kept))

-- of a stage that is there, there is a row
pub row_there : (o : Option Stage) (r : Option LawfulRow) → is_some o ≡ true
    → MatchOption r (o ≡ None) (λ l. o ≡ Some (stage_in l)) → IsSome r
row_there o None there none = absurd (both_ways (is_some o) (ap is_some none) there)
row_there o (Some l) there here = refl

-- one more stage along a list
present-push : (stages : List (Option Stage)) (s : Stage) → present_stages (stages ++ Some s ∷ []) ≡ present_stages stages ++ s ∷ []
present-push [] s = refl
present-push (None ∷ xs) s = present-push xs s
present-push (Some x ∷ xs) s = ap (λ rest. x ∷ rest) (present-push xs s)

-- one more row is noted
pub rows_more : (f : ℕ → Option Stage) (entries : List ℕ) (rows : List LawfulRow) (i : ℕ) (l : LawfulRow) → i < length entries
    → stages_of rows ≡ present_stages (map f (take i entries)) → f (get_or entries i 0) ≡ Some (stage_in l)
    → stages_of (rows ++ l ∷ []) ≡ present_stages (map f (take (i + 1) entries))
rows_more f entries rows i l inside before here =
    map-append stage_in rows (l ∷ []) ∙ ap (λ ss. ss ++ stage_in l ∷ []) before
    ∙ sym (present-push (map f (take i entries)) (stage_in l))
    ∙ ap (λ o. present_stages (map f (take i entries) ++ o ∷ [])) (sym here)
    ∙ ap present_stages (sym (map-append f (take i entries) (get_or entries i 0 ∷ [])))
    ∙ ap (λ xs. present_stages (map f xs)) (sym (take_more entries i 0 inside))
