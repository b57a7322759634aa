-- What is left at a cursor, by the record that stands there. Assumes nothing.
use Rattle.std.proofs.Common.{◌≡◌, ℕ, zero, suc, ◌+◌, ◌-◌, ◌/◌, ◌^◌, ◌<◌, ◌≤◌, Bool, true, false, ◌&&◌, eqb, ltb, leb, List, [], ◌∷◌, length, drop, sym, refl, ap, ◌∙◌, subst, arith, length-drop}
use Rattle.std.proofs.lemmas.List.{drop-drop}
use Rattle.std.proofs.lemmas.Bool.{and_parts, and_from, cond-true, cond_both, leb-true, le-leb, lt-ltb}
use Rattle.answers.specs.declared.fault.Fault.TheVariants.{NoItem, Record}
use Rattle.answers.specs.declared.fault.Fault.{Fault}
use Rattle.answers.specs.declared.refusal.Refusal.{Refusal}
use Rattle.answers.specs.Refusals.{refusal_at}
use Rattle.source.specs.Items.{Item, addition, deletion}
use Rattle.source.specs.Bodies.{item_in}
use Rattle.source.specs.Looks.{ended}
use Rattle.source.specs.declared.body.Body.{Body}
use Rattle.source.specs.declared.head.Head.{Head}
use Rattle.source.specs.declared.head.Head.TheVariants.{Addition, Deletion}
use Rattle.record_source.specs.declared.cursor.RecordSource.{RecordSource}
use Rattle.record_source.specs.Tells.{Closes}
use Rattle.record_source.specs.declared.flaw.Flaw.{Flaw}
use Rattle.record_source.specs.Fields.{Got, got, flawed}
use Rattle.record_source.specs.Records.{Entry, line, last, first_record}
use Rattle.record_source.specs.Reading.{Reading, ends, before, fault_of, is_cut, counted, closing, read_record, read_from}
use Rattle.record_source.specs.Lefts.{reached, read_on, left}
use Rattle.record_source.specs.Keeps.{Good, EntryIn, first_good}
use Rattle.record_source.proofs.Ends.{left_where}

record_same : (place additions : ℕ) (bs : List ℕ) (g : Got Entry) (on off : ℕ → List ℕ → Reading) → Good EntryIn 4 bs g → ((a : ℕ) (r : List ℕ) → 4 + length r ≤ length bs → on a r ≡ off a r) → read_record place additions g on ≡ read_record place additions g off
record_same place additions bs (got (line x) r) on off h k = ap (before x place) (k (counted x additions) r h.1)
record_same place additions bs (got (last n) r) on off h k = refl
record_same place additions bs (flawed w) on off h k = refl

-- any number that is as large as the count of the bytes gives the same reading
pub read_same : (n m records additions : ℕ) (bs : List ℕ) → length bs ≤ n → length bs ≤ m → read_from n records additions bs ≡ read_from m records additions bs
read_same zero zero records additions bs h k = refl
read_same zero (suc m) records additions [] h k = refl
read_same zero (suc m) records additions (b ∷ bs) h k = absurd (omega arith)
read_same (suc n) zero records additions [] h k = refl
read_same (suc n) zero records additions (b ∷ bs) h k = absurd (omega arith)
read_same (suc n) (suc m) records additions bs h k =
    record_same (records + 1) additions bs (first_record bs) (read_from n (records + 1)) (read_from m (records + 1)) (first_good bs)
    (λ a r l. read_same n m (records + 1) a r (omega arith) (omega arith))

counted_low : (x : Item) (a p : ℕ) → a ≤ p → counted x a ≤ p + 1
counted_low (addition n ls hs) a p h = omega arith
counted_low (deletion ns) a p h = omega arith

module _ (bs : List ℕ) (at p a : ℕ) (small : length bs < 2 ^ 64) (ok : reached bs at p a ≡ true) where
  here : left bs at p a ≡ read_on bs at p a
  here = cond-true (reached bs at p a && ltb (length bs) (2 ^ 64)) (read_on bs at p a) (ends NoItem 0 false) (and_from (reached bs at p a) (ltb (length bs) (2 ^ 64)) ok (lt-ltb (length bs) (2 ^ 64) small))

module _ (bs : List ℕ) (at p a : ℕ) (small : length bs < 2 ^ 64) (ok : reached bs at p a ≡ true) where
  opened : left bs at p a ≡ read_record (p + 1) a (first_record (drop at bs)) (read_from (length bs) (p + 1))
  opened = here bs at p a small ok ∙ read_same (length bs) (suc (length bs)) p a (drop at bs) (simp length-drop (omega arith)) (simp length-drop (omega arith))

  parts : (at ≤ length bs) × (p ≤ at / 4) × (a ≤ p)
  parts =
      let u = and_parts (leb at (length bs)) (leb p (at / 4) && leb a p) ok in
      let v = and_parts (leb p (at / 4)) (leb a p) u.1 in
      (leb-true at (length bs) u.0, leb-true p (at / 4) v.0, leb-true a p v.1)

  reached_on : (x : Item) (next : ℕ) → at + 4 ≤ next → next ≤ length bs → reached bs next (p + 1) (counted x a) ≡ true
  reached_on x next l h =
      let q = parts.1 in
      and_from (leb next (length bs)) (leb (p + 1) (next / 4) && leb (counted x a) (p + 1)) (le-leb next (length bs) h)
      (and_from (leb (p + 1) (next / 4)) (leb (counted x a) (p + 1)) (le-leb (p + 1) (next / 4) (omega arith)) (le-leb (counted x a) (p + 1) (counted_low x a p parts.2)))

  -- what is left behind a record stands where so many bytes are left
  pub where_left : (x : Entry) (r : List ℕ) → first_record (drop at bs) ≡ got x r → (r ≡ drop (length bs - length r) bs) × (at + 4 + length r ≤ length bs)
  where_left x r e =
      let q = parts.0 in
      let h = subst (Good EntryIn 4 (drop at bs)) e (first_good (drop at bs)) in
      let l : 4 + length r ≤ length bs - at = simp length-drop at h.1 in
      let w = left_where (drop at bs) r x e in
      let j : at + (length (drop at bs) - length r) ≡ length bs - length r = omega (arith, length-drop at bs) in
      (w ∙ drop-drop (length (drop at bs) - length r) at bs ∙ ap (λ n. drop n bs) j, omega arith)

  pub left_line : (x : Item) (r : List ℕ) → first_record (drop at bs) ≡ got (line x) r → left bs at p a ≡ before x (p + 1) (left bs (length bs - length r) (p + 1) (counted x a))
  left_line x r e =
      let w = where_left (line x) r e in
      let l = w.1 in
      let next = length bs - length r in
      opened ∙ ap (λ g. read_record (p + 1) a g (read_from (length bs) (p + 1))) e
      ∙ ap (λ s. before x (p + 1) (read_from (length bs) (p + 1) (counted x a) s)) w.0
      ∙ ap (before x (p + 1)) (sym (here bs next (p + 1) (counted x a) small (reached_on x next (omega arith) (omega arith))))

  pub left_last : (n : ℕ) (r : List ℕ) → first_record (drop at bs) ≡ got (last n) r → left bs at p a ≡ closing n a (p + 1) (length r)
  left_last n r e = opened ∙ ap (λ g. read_record (p + 1) a g (read_from (length bs) (p + 1))) e

  pub left_flawed : (w : Flaw) → first_record (drop at bs) ≡ flawed w → left bs at p a ≡ ends (fault_of w) (p + 1) (is_cut w)
  left_flawed w e = opened ∙ ap (λ g. read_record (p + 1) a g (read_from (length bs) (p + 1))) e

pub counted_other : (h : Head) (b : Body) (a : ℕ) → ((n l k place : ℕ) → h ≡ Addition n l k place → ⊥) → counted (item_in h b) a ≡ a
counted_other (Addition n l k place) b a f = absurd (f n l k place refl)
counted_other (Deletion k place) b a f = refl

-- where the reading ends at once, its ending is answered
pub none_left : (s : RecordSource) (fault : Fault) (place : ℕ) (stopped : Bool) (e : Refusal) → left s.bytes.now s.mark.at s.mark.place s.mark.additions ≡ ends fault place stopped → e ≡ refusal_at fault place → Closes s e
none_left s fault place stopped e q h = (ap (λ (x : Reading). x.items) q, h ∙ ap (λ (x : Reading). ended x.ending) (sym q))

-- no item comes at the last record
pub closing_none : (n a place rest : ℕ) → (closing n a place rest).items ≡ []
closing_none n a place rest =
    cond_both (eqb n a) _ (ends Record place false) (λ r. r.items ≡ [])
    (λ _. cond_both (eqb rest 0) (ends NoItem 0 false) (ends Record (place + 1) false) (λ r. r.items ≡ []) (λ _. refl) (λ _. refl))
    (λ _. refl)

pub last_closes : (s : RecordSource) (n : ℕ) (r : List ℕ) (e : Refusal) → length s.bytes.now < 2 ^ 64 → reached s.bytes.now s.mark.at s.mark.place s.mark.additions ≡ true → first_record (drop s.mark.at s.bytes.now) ≡ got (last n) r → e ≡ ended (closing n s.mark.additions (s.mark.place + 1) (length r)).ending → Closes s e
last_closes s n r e small ok g h =
    let q = left_last s.bytes.now s.mark.at s.mark.place s.mark.additions small ok n r g in
    (ap (λ (x : Reading). x.items) q ∙ closing_none n s.mark.additions (s.mark.place + 1) (length r), h ∙ ap (λ (x : Reading). ended x.ending) (sym q))
