-- The search through the slots of a table, and what a change of one slot does.
-- Assumes nothing.
use Rattle.std.proofs.Common.{◌≡◌, ℕ, zero, suc, ◌+◌, ◌<◌, ◌≤◌, Bool, true, false, cond, eqb, List, [], ◌∷◌, length, get_or, set, not, is_some, Some, None, Option, sym, refl, ap, ◌∙◌, ⊎_elim, arith, MatchOption}
use Rattle.std.specs.Map.{update}
use Rattle.std.specs.List.{position}
use Rattle.std.proofs.lemmas.List.Quantifiers.{position-Some}
use Rattle.book.proofs.Positions.{position-None}
use Rattle.std.proofs.lemmas.Bool.{cond-true, cond-false, both_ways, not-true, cases_Bool, eqb-true, eqb-false, eq-eqb, ne_eqb, lt-ltb, le-ltb, cases_eq, or_left, or_right, or_from}
use Rattle.platform.specs.declared.record.Record.{Record}
use Rattle.platform.specs.Records.{in_range}
use Rattle.book.specs.declared.table.Task.{Task}
use Rattle.book.specs.Ledgers.{held_count}
use Rattle.book.specs.Tasks.{has_number, record_in, held_under, Distinct, Ranged, Found, Vacant, Ready, vacant, has_room}

-- a slot that has the number has a record
has_some : (slot : Option Task) (n : ℕ) → has_number slot n ≡ true → record_in slot ≡ None → ⊥
has_some None n h e = both_ways false refl h
has_some (Some t) n h e = let z : ◌≡◌ {A = ℕ} 0 1 = cc in omega arith

pub none_held : (o : Option Record) → is_some o ≡ false → o ≡ None
none_held None e = refl
none_held (Some r) e = absurd (both_ways true e refl)

-- the first slot that has the number has its record
first_holds : (slots : List (Option Task)) (i n : ℕ) → i < length slots → has_number (get_or slots i None) n ≡ true
    → ((k : ℕ) → k < i → has_number (get_or slots k None) n ≡ false) → held_under slots n ≡ record_in (get_or slots i None)
first_holds [] i n h here before = absurd (omega arith)
first_holds (x ∷ xs) zero n h here before = cond-true _ _ _ here
first_holds (x ∷ xs) (suc i) n h here before =
    cond-false _ _ _ (before 0 (omega arith))
    ∙ first_holds xs i n (omega arith) here (λ k below. before (suc k) (omega arith))

none_holds : (slots : List (Option Task)) (n : ℕ) → ((k : ℕ) → k < length slots → has_number (get_or slots k None) n ≡ false)
    → held_under slots n ≡ None
none_holds [] n all = refl
none_holds (x ∷ xs) n all =
    cond-false _ _ _ (all 0 (omega arith)) ∙ none_holds xs n (λ k below. all (suc k) (omega arith))

pub found_by_number : (slots : List (Option Task)) (n : ℕ) (o : Option ℕ) → o ≡ position (λ (s : Option Task). has_number s n) slots
    → MatchOption o (held_under slots n ≡ None) (λ i. Found slots i n)
found_by_number slots n None e = none_holds slots n (λ k below. position-None _ slots (sym e) k None below)
found_by_number slots n (Some i) e =
    let at = position-Some _ slots i None (sym e) in
    record { inside = at.0; has = at.1; held = first_holds slots i n at.0 at.1 at.2 }

pub none_of : (slot : Option Task) → is_some slot ≡ false → slot ≡ None
none_of None e = refl
none_of (Some t) e = absurd (both_ways true e refl)

none_vacant : (slots : List (Option Task)) → ((k : ℕ) → k < length slots → not (is_some (get_or slots k None)) ≡ false) → vacant slots ≡ 0
none_vacant [] all = refl
none_vacant (None ∷ xs) all = absurd (both_ways true (all 0 (omega arith)) refl)
none_vacant (Some t ∷ xs) all = none_vacant xs (λ k below. all (suc k) (omega arith))

pub found_vacant : (slots : List (Option Task)) (o : Option ℕ) → o ≡ position (λ (s : Option Task). not (is_some s)) slots
    → MatchOption o (vacant slots ≡ 0) (Vacant slots)
found_vacant slots None e = none_vacant slots (λ k below. position-None _ slots (sym e) k None below)
found_vacant slots (Some i) e =
    let at = position-Some _ slots i None (sym e) in
    record { inside = at.0; empty = none_of _ (not-true _ at.1) }

-- A slot that does not have the number m may change to another that has not.
pub set_other : (slots : List (Option Task)) (i m : ℕ) (s : Option Task)
    → has_number (get_or slots i None) m ≡ false → has_number s m ≡ false → held_under (set slots i s) m ≡ held_under slots m
set_other [] i m s old new = refl
set_other (x ∷ xs) zero m s old new = cond-false _ _ _ new ∙ sym (cond-false _ _ _ old)
set_other (x ∷ xs) (suc i) m s old new = ap (cond (has_number x m) (record_in x)) (set_other xs i m s old new)

-- the same, where the slot is first emptied
set_silent : (slots : List (Option Task)) (i m : ℕ) (s : Option Task)
    → has_number s m ≡ false → held_under (set slots i s) m ≡ held_under (set slots i None) m
set_silent [] i m s new = refl
set_silent (x ∷ xs) zero m s new = cond-false _ _ _ new
set_silent (x ∷ xs) (suc i) m s new = ap (cond (has_number x m) (record_in x)) (set_silent xs i m s new)

-- a slot of a list that does not hold n does not have it, and nor does the rest
none_parts : (x : Option Task) (xs : List (Option Task)) (n : ℕ) → held_under (x ∷ xs) n ≡ None
    → (has_number x n ≡ false) × (held_under xs n ≡ None)
none_parts x xs n h =
    ⊎_elim
    (λ e. absurd (has_some x n e (sym (cond-true _ _ _ e) ∙ h)))
    (λ e. (e, sym (cond-false _ _ _ e) ∙ h))
    (cases_Bool (has_number x n))

pub none_emptied : (slots : List (Option Task)) (i n : ℕ) → held_under slots n ≡ None → held_under (set slots i None) n ≡ None
none_emptied [] i n h = refl
none_emptied (x ∷ xs) zero n h = (none_parts x xs n h).1
none_emptied (x ∷ xs) (suc i) n h =
    let parts = none_parts x xs n h in
    cond-false _ _ _ parts.0 ∙ none_emptied xs i n parts.1

-- a number that a slot has is held
has_held : (slots : List (Option Task)) (i n : ℕ) → has_number (get_or slots i None) n ≡ true → held_under slots n ≡ None → ⊥
has_held [] i n h e = both_ways false refl h
has_held (x ∷ xs) zero n h e = both_ways (has_number x n) (none_parts x xs n e).0 h
has_held (x ∷ xs) (suc i) n h e = has_held xs i n h (none_parts x xs n e).1

-- where numbers differ, a number is held nowhere but in its slot
pub distinct_emptied : (slots : List (Option Task)) (i n : ℕ) → Distinct slots → has_number (get_or slots i None) n ≡ true
    → held_under (set slots i None) n ≡ None
distinct_emptied [] i n d h = refl
distinct_emptied (None ∷ xs) zero n d h = absurd (both_ways false refl h)
distinct_emptied (None ∷ xs) (suc i) n d h = distinct_emptied xs i n d h
distinct_emptied (Some t ∷ xs) zero n d h = ap (held_under xs) (eqb-true n t.number h) ∙ none_held _ d.0
distinct_emptied (Some t ∷ xs) (suc i) n d h =
    ⊎_elim
    (λ e. absurd (has_held xs i t.number (rw (sym (eqb-true n t.number e)) h) (none_held _ d.0)))
    (λ e. cond-false _ _ _ e ∙ distinct_emptied xs i n d.1 h)
    (cases_Bool (eqb n t.number))

-- a slot that has a number which no other has is where its record is held
pub set_here : (slots : List (Option Task)) (i n : ℕ) (s : Option Task) → i < length slots
    → held_under (set slots i None) n ≡ None → has_number s n ≡ true → held_under (set slots i s) n ≡ record_in s
set_here [] i n s h none has = absurd (omega arith)
set_here (x ∷ xs) zero n s h none has = cond-true _ _ _ has
set_here (x ∷ xs) (suc i) n s h none has =
    let parts = none_parts x (set xs i None) n none in
    cond-false _ _ _ parts.0 ∙ set_here xs i n s (omega arith) parts.1 has

pub emptied_distinct : (slots : List (Option Task)) (i : ℕ) → Distinct slots → Distinct (set slots i None)
emptied_distinct [] i d = d
emptied_distinct (None ∷ xs) zero d = d
emptied_distinct (None ∷ xs) (suc i) d = emptied_distinct xs i d
emptied_distinct (Some t ∷ xs) zero d = d.1
emptied_distinct (Some t ∷ xs) (suc i) d = (ap is_some (none_emptied xs i t.number (none_held _ d.0)), emptied_distinct xs i d.1)

pub filled_distinct : (slots : List (Option Task)) (i : ℕ) (t : Task) → Distinct slots
    → held_under (set slots i None) t.number ≡ None → Distinct (set slots i (Some t))
filled_distinct [] i t d none = d
filled_distinct (None ∷ xs) zero t d none = (ap is_some none, d)
filled_distinct (None ∷ xs) (suc i) t d none = filled_distinct xs i t d none
filled_distinct (Some u ∷ xs) zero t d none = (ap is_some none, d.1)
filled_distinct (Some u ∷ xs) (suc i) t d none =
    let parts = none_parts (Some u) (set xs i None) t.number none in
    let apart : eqb u.number t.number ≡ false =
    ne_eqb u.number t.number (λ e. eqb-false t.number u.number parts.0 (sym e)) in (
      ap is_some (set_silent xs i u.number (Some t) apart ∙ none_emptied xs i u.number (none_held _ d.0)),
      filled_distinct xs i t d.1 parts.1,
    )

pub emptied_ranged : (slots : List (Option Task)) (i : ℕ) → Ranged slots → Ranged (set slots i None)
emptied_ranged [] i d = d
emptied_ranged (None ∷ xs) zero d = d
emptied_ranged (None ∷ xs) (suc i) d = emptied_ranged xs i d
emptied_ranged (Some t ∷ xs) zero d = d.2
emptied_ranged (Some t ∷ xs) (suc i) d = (d.0, d.1, emptied_ranged xs i d.2)

pub filled_ranged : (slots : List (Option Task)) (i : ℕ) (t : Task) → t.number < 128 → in_range t.record.record ≡ true
    → Ranged slots → Ranged (set slots i (Some t))
filled_ranged [] i t low range d = d
filled_ranged (None ∷ xs) zero t low range d = (low, range, d)
filled_ranged (None ∷ xs) (suc i) t low range d = filled_ranged xs i t low range d
filled_ranged (Some u ∷ xs) zero t low range d = (low, range, d.2)
filled_ranged (Some u ∷ xs) (suc i) t low range d = (d.0, d.1, filled_ranged xs i t low range d.2)

has_one : (slot : Option Task) (n m : ℕ) → has_number slot n ≡ true → (m ≡ n → ⊥) → has_number slot m ≡ false
has_one None n m h apart = refl
has_one (Some t) n m h apart = ne_eqb m t.number (λ e. apart (e ∙ sym (eqb-true n t.number h)))

pub found_ready : (slots : List (Option Task)) (i n : ℕ) → Distinct slots → Found slots i n → Ready slots i n
found_ready slots i n d found =
    record {
      inside = found.inside;
      room = or_left _ _ (held_some (get_or slots i None) n found.has found.held);
      alone = distinct_emptied slots i n d found.has;
      free = λ m apart. has_one (get_or slots i None) n m found.has apart;
    }
  where
    held_some : (slot : Option Task) (n : ℕ) → has_number slot n ≡ true → held_under slots n ≡ record_in slot → is_some (held_under slots n) ≡ true
    held_some None n h e = absurd (both_ways false refl h)
    held_some (Some t) n h e = ap is_some e

-- how many numbers are held
count_none : (n : ℕ) → held_count (λ m. None) n ≡ 0
unfolding held_count
count_none zero = refl
count_none (suc n) = count_none n

module _ (f : ℕ → Option Record) (k : ℕ) (r : Record) where
  more : ℕ → Option Record
  more m = cond (eqb m k) (Some r) (f m)

  count_apart : (n : ℕ) → n ≤ k → held_count more n ≡ held_count f n
  unfolding more held_count
  count_apart zero h = refl
  count_apart (suc n) h =
      let apart = ne_eqb n k (omega arith) in
      rw (cond-false (eqb n k) (Some r) (f n) apart, count_apart n (omega arith)) refl

  count_more : f k ≡ None → (n : ℕ) → k < n → held_count more n ≡ held_count f n + 1
  unfolding more held_count
  count_more none zero h = absurd (omega arith)
  count_more none (suc n) h =
      ⊎_elim
      (λ e.
      rw (cond-true (eqb n k) (Some r) (f n) (eq-eqb n k e), ap is_some (ap f e ∙ none))
      (ap (λ c. c + 1) (count_apart n (omega arith))))
      (λ apart.
      rw (cond-false (eqb n k) (Some r) (f n) (ne_eqb n k apart), count_more none n (omega arith))
      (cond_plus (is_some (f n)) (held_count f n)))
      (cases_eq n k)
    where
      cond_plus : (b : Bool) (c : ℕ) → cond b (c + 1 + 1) (c + 1) ≡ cond b (c + 1) c + 1
      cond_plus true c = refl
      cond_plus false c = refl

-- each slot has a task or none
pub slots_counted : (slots : List (Option Task)) → Distinct slots → Ranged slots
    → held_count (held_under slots) 128 + vacant slots ≡ length slots
unfolding more
slots_counted [] d h = omega (arith, count_none 128)
slots_counted (None ∷ xs) d h = omega (arith, slots_counted xs d h)
slots_counted (Some t ∷ xs) d h =
    omega (arith, slots_counted xs d.1 h.2, count_more (held_under xs) t.number t.record.record (none_held _ d.0) 128 h.0)

vacant_some : (slots : List (Option Task)) (i : ℕ) → i < length slots → get_or slots i None ≡ None → 0 < vacant slots
vacant_some [] i h e = absurd (omega arith)
vacant_some (None ∷ xs) zero h e = omega arith
vacant_some (None ∷ xs) (suc i) h e = omega arith
vacant_some (Some t ∷ xs) zero h e = let z : ◌≡◌ {A = ℕ} 0 1 = cc in omega arith
vacant_some (Some t ∷ xs) (suc i) h e = vacant_some xs i (omega arith) e

module _ (slots : List (Option Task)) (d : Distinct slots) (range : Ranged slots) (full : length slots ≡ 32) where
  pub vacant_ready : (i n : ℕ) → held_under slots n ≡ None → Vacant slots i → Ready slots i n
  vacant_ready i n none free =
      let count = slots_counted slots d range in
      let some = vacant_some slots i free.inside free.empty in
      record {
        inside = free.inside;
        room = or_right _ _ (lt-ltb (held_count (held_under slots) 128) 32 (omega arith));
        alone = none_emptied slots i n none;
        free = λ m apart. ap (λ s. has_number s m) free.empty;
      }

  pub no_room : (n : ℕ) → held_under slots n ≡ None → vacant slots ≡ 0 → has_room slots n ≡ false
  no_room n none taken =
      let count = slots_counted slots d range in
      or_from _ _ (ap is_some none) (le-ltb (held_count (held_under slots) 128) 32 (omega arith))

  -- where the number is not held, a free slot is ready for it
  pub free_ready : (n : ℕ) (o : Option ℕ) → held_under slots n ≡ None
      → MatchOption o (vacant slots ≡ 0) (Vacant slots) → MatchOption o (has_room slots n ≡ false) (λ i. Ready slots i n)
  free_ready n None none taken = no_room n none taken
  free_ready n (Some i) none free = vacant_ready i n none free

  -- the slot that has the number, or else a free one, is ready for it
  pub either_ready : (n : ℕ) (found taken : Option ℕ) → MatchOption found (held_under slots n ≡ None) (λ i. Found slots i n)
      → (found ≡ None → MatchOption taken (vacant slots ≡ 0) (Vacant slots)) → ((i : ℕ) → found ≡ Some i → taken ≡ Some i)
      → MatchOption taken (has_room slots n ≡ false) (λ i. Ready slots i n)
  either_ready n None taken none free same = free_ready n taken none (free refl)
  either_ready n (Some i) taken found free same =
      rw (same i refl) (found_ready slots i n d found)

-- what is held after a slot took a record
pub put_held : (slots : List (Option Task)) (i : ℕ) (t : Task) → Ready slots i t.number
    → (m : ℕ) → held_under (set slots i (Some t)) m ≡ update eqb (held_under slots) t.number (Some t.record.record) m
put_held slots i t ready m =
    ⊎_elim
    (λ e.
    let same = sym (eqb-true t.number m e) in
    ap (held_under (set slots i (Some t))) same
    ∙ set_here slots i t.number (Some t) ready.inside ready.alone (eq-eqb t.number t.number refl)
    ∙ sym (cond-true _ _ _ e))
    (λ e.
    let other = λ (same : m ≡ t.number). eqb-false t.number m e (sym same) in
    set_other slots i m (Some t) (ready.free m other) (ne_eqb m t.number other) ∙ sym (cond-false _ _ _ e))
    (cases_Bool (eqb t.number m))

pub emptied_held : (slots : List (Option Task)) (i n : ℕ) → Ready slots i n
    → (m : ℕ) → held_under (set slots i None) m ≡ update eqb (held_under slots) n None m
emptied_held slots i n ready m =
    ⊎_elim
    (λ e. ap (held_under (set slots i None)) (sym (eqb-true n m e)) ∙ ready.alone ∙ sym (cond-true _ _ _ e))
    (λ e. set_other slots i m None (ready.free m (λ same. eqb-false n m e (sym same))) refl ∙ sym (cond-false _ _ _ e))
    (cases_Bool (eqb n m))

-- a number that is not held is as if taken out
pub absent_held : (slots : List (Option Task)) (n : ℕ) → held_under slots n ≡ None
    → (m : ℕ) → held_under slots m ≡ update eqb (held_under slots) n None m
absent_held slots n none m =
    ⊎_elim
    (λ e. ap (held_under slots) (sym (eqb-true n m e)) ∙ none ∙ sym (cond-true _ _ _ e))
    (λ e. sym (cond-false _ _ _ e))
    (cases_Bool (eqb n m))

-- a held record is in range
pub held_in_range : (slots : List (Option Task)) (n : ℕ) (r : Record) → Ranged slots → Some r ≡ held_under slots n → in_range r ≡ true
held_in_range [] n r range e = cc
held_in_range (None ∷ xs) n r range e = held_in_range xs n r range e
held_in_range (Some t ∷ xs) n r range e =
    ⊎_elim
    (λ h. let same : Some r ≡ Some t.record.record = e ∙ cond-true _ _ _ h in let r_is : r ≡ t.record.record = cc in ap in_range r_is ∙ range.1)
    (λ h. held_in_range xs n r range.2 (e ∙ cond-false _ _ _ h))
    (cases_Bool (eqb n t.number))
