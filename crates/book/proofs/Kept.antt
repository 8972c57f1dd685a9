-- What every book keeps, through each change.
-- Assumes nothing.
use Rattle.std.proofs.Common.{◌≡◌, ℕ, zero, suc, ◌<◌, Bool, true, false, cond, not, eqb, ltb, List, [], ◌∷◌, length, get_or, replicate, is_some, Some, None, Option, sym, refl, ap, ◌∙◌, subst, ⊎_elim, arith}
use mathlib.Core.Bool.{Bool-set}
use mathlib.Core.HLevel.{Π_prop, ×_prop, ×₃_prop, Unit-prop}
use mathlib.Core.Logic.{∥∥₁_elim}
use native.Mathlib.Bridge.{le_prop}
use Rattle.std.specs.Map.{update}
use Rattle.std.specs.Option.{option_map}
use Rattle.std.proofs.lemmas.Bool.{cases_Bool, cond-true, cond-false, ltb-false, lt-ltb, ne_eqb, both_ways}
use Rattle.stage.specs.Stages.{Stage}
use Rattle.platform.specs.declared.record.Record.{Record}
use Rattle.arrayvec.specs.ArrayVec.{ArrayVec}
use Rattle.book.specs.declared.table.Table.{Table}
use Rattle.book.specs.declared.table.Task.{Task}
use Rattle.book.specs.Keeping.{Keeps, keeps_prop, seen}
use Rattle.platform.specs.LawfulRecords.{fault_of}
use Rattle.platform.specs.Records.{record_stage, period_in_range, offset_in_range, response_in_range}
use Rattle.platform.specs.declared.lawful_record.RecordFault.{RecordFault}
use Rattle.platform.specs.declared.lawful_record.RecordFault.TheVariants.{Period, Offset, Response}
use Rattle.book.specs.Faults.{record_fault}
use Rattle.book.specs.Ledgers.{entry_stage, first_absent, on_route, refuse, ◌then◌, number_refusal, record_refusal}
use Rattle.book.proofs.Routes.{off_route, present_all}
use Rattle.book.specs.Tasks.{held_under, Distinct, Ranged}

distinct_prop : (slots : List (Option Task)) → IsProp (Distinct slots)
distinct_prop [] = Unit-prop
distinct_prop (None ∷ xs) = distinct_prop xs
distinct_prop (Some t ∷ xs) = ×_prop (Bool-set _ _) (distinct_prop xs)

ranged_prop : (slots : List (Option Task)) → IsProp (Ranged slots)
ranged_prop [] = Unit-prop
ranged_prop (None ∷ xs) = ranged_prop xs
ranged_prop (Some t ∷ xs) = ×₃_prop le_prop (Bool-set _ _) (ranged_prop xs)

-- what is kept, out of a book's invariant
pub kept : (t : Table) (r : ArrayVec ℕ) → ∥ Keeps t r ∥₁ → Keeps t r
kept t r k =
    ∥∥₁_elim k
    (keeps_prop (distinct_prop t.slots) (ranged_prop t.slots)
    (Π_prop (λ k. Π_prop (λ h. Π_prop (λ l. Bool-set _ _)))))
    (λ x. x)

empty_distinct : (n : ℕ) → Distinct (replicate n None)
empty_distinct zero = tt
empty_distinct (suc n) = empty_distinct n

empty_ranged : (n : ℕ) → Ranged (replicate n None)
empty_ranged zero = tt
empty_ranged (suc n) = empty_ranged n

pub empty_held : (n m : ℕ) → held_under (replicate n None) m ≡ None
empty_held zero m = refl
empty_held (suc n) m = empty_held n m

pub empty_keeps : (t : Table) (r : ArrayVec ℕ) → t.slots ≡ replicate 32 None → r.items ≡ [] → Keeps t r
empty_keeps t r slots entries =
    record {
      distinct = subst Distinct (sym slots) (empty_distinct 32);
      ranged = subst Ranged (sym slots) (empty_ranged 32);
      held = λ k h low. absurd (omega (arith, ap length entries));
    }

-- a record is held under one number more, or another one under the same
pub put_keeps : (t u : Table) (r : ArrayVec ℕ) (n : ℕ) (x : Record) (b : Bool) → Keeps t r → Distinct u.slots → Ranged u.slots
    → ((m : ℕ) → held_under u.slots m ≡ cond b (update eqb (held_under t.slots) n (Some x) m) (held_under t.slots m))
    → Keeps u r
put_keeps t u r n x b before d range held =
    record {
      distinct = d;
      ranged = range;
      held = λ k h low. ap is_some (held (get_or r.items k 0)) ∙ still b (get_or r.items k 0) (before.held k h low);
    }
  where
    still : (b : Bool) (m : ℕ) → is_some (held_under t.slots m) ≡ true
        → is_some (cond b (update eqb (held_under t.slots) n (Some x) m) (held_under t.slots m)) ≡ true
    still false m p = p
    still true m p =
        ⊎_elim (λ e. ap is_some (cond-true _ _ _ e)) (λ e. ap is_some (cond-false _ _ _ e) ∙ p) (cases_Bool (eqb n m))

-- a number that is not on the route is held no more
pub remove_keeps : (t u : Table) (r : ArrayVec ℕ) (n : ℕ) → Keeps t r → on_route r.items n ≡ false
    → Distinct u.slots → Ranged u.slots
    → ((m : ℕ) → held_under u.slots m ≡ update eqb (held_under t.slots) n None m) → Keeps u r
remove_keeps t u r n before off d range held =
    record {
      distinct = d;
      ranged = range;
      held = λ k h low.
          ap is_some
          (held (get_or r.items k 0)
          ∙ cond-false _ _ _ (ne_eqb n (get_or r.items k 0) (λ e. off_route r.items n k off h (sym e))))
          ∙ before.held k h low;
    }

-- what the checks of a number and a record leave
pub number_low : (n : ℕ) → None ≡ number_refusal n → n < 128
number_low n e = ⊎_elim (λ h. absurd (refuse_none 1 (ltb 127 n) e h)) (λ h. omega (arith, ltb-false 127 n h)) (cases_Bool (ltb 127 n))
  where
    refuse_none : (k : ℕ) (b : Bool) → None ≡ refuse k b → b ≡ true → ⊥
    refuse_none k true e h = let z : ◌≡◌ {A = ℕ} 0 1 = cc in omega arith
    refuse_none k false e h = both_ways false refl h

pub record_checked : (r : Record) → fault_of r ≡ None → record_refusal r ≡ None
record_checked r = tests (period_in_range r) (offset_in_range r) (response_in_range r)
  where
    tests : (p o s : Bool) → cond p (cond o (cond s None (Some Response)) (Some Offset)) (Some Period) ≡ None
        → (refuse 2 (not p) then refuse 3 (not o) then refuse 4 (not s)) ≡ None
    tests true true true e = refl
    tests true true false e = cc
    tests true false s e = cc
    tests false o s e = cc

pub record_refused : (r : Record) (fault : RecordFault) → fault_of r ≡ Some fault → record_refusal r ≡ Some (record_fault fault)
record_refused r fault = tests (period_in_range r) (offset_in_range r) (response_in_range r)
  where
    tests : (p o s : Bool) → cond p (cond o (cond s None (Some Response)) (Some Offset)) (Some Period) ≡ Some fault
        → (refuse 2 (not p) then refuse 3 (not o) then refuse 4 (not s)) ≡ Some (record_fault fault)
    tests true true true e = cc
    tests true true false e = let same : Response ≡ fault = cc in ap (λ f. Some (record_fault f)) same
    tests true false s e = let same : Offset ≡ fault = cc in ap (λ f. Some (record_fault f)) same
    tests false o s e = let same : Period ≡ fault = cc in ap (λ f. Some (record_fault f)) same

-- a route whose entries are all held or present
pub route_keeps : (meaning : ℕ → Option Stage) (t : Table) (old new : ArrayVec ℕ) (entries : List ℕ) → Keeps t old
    → new.items ≡ entries → first_absent (entry_stage (seen meaning t old)) entries ≡ None → Keeps t new
route_keeps meaning t old new entries before same none =
    record {
      distinct = before.distinct;
      ranged = before.ranged;
      held = subst (λ xs. (k : ℕ) → k < length xs → get_or xs k 0 < 128 → is_some (held_under t.slots (get_or xs k 0)) ≡ true) (sym same) held;
    }
  where
    mapped_some : (o : Option Record) → is_some (option_map record_stage o) ≡ is_some o
    mapped_some None = refl
    mapped_some (Some r) = refl

    held : (k : ℕ) → k < length entries → get_or entries k 0 < 128 → is_some (held_under t.slots (get_or entries k 0)) ≡ true
    held k h low =
        sym (mapped_some _) ∙ ap is_some (sym (cond-true _ _ _ (lt-ltb _ 128 low)))
        ∙ present_all (entry_stage (seen meaning t old)) entries none k h
