-- Why the items and the ending that are left keep the limits, and why the items are few. Assumes nothing.
use Rattle.std.specs.Prelude.{◌≡◌, ℕ, zero, suc, ◌+◌, ◌*◌, ◌^◌, ◌<◌, ◌≤◌, Bool, true, false, ◌&&◌, leb, List, [], ◌∷◌, length, drop, ◌==◌, nat_le, nat_lt, unsigned_abs, refl}
use Rattle.std.proofs.Common.{arith, inl, inr, length-drop}
use Rattle.std.specs.List.{AllByRecursion}
use Rattle.std.proofs.lemmas.Bool.{cond_both, and_parts, leb-true, ltb-true}
use Rattle.answers.specs.declared.fault.Fault.TheVariants.{NoItem, Record}
use Rattle.source.specs.Items.{addition, deletion}
use Rattle.source.specs.Limits.{Positive, Literal, Within, AllWithin, EndingWithin}
use Rattle.record_source.specs.declared.flaw.Flaw.{Flaw}
use Rattle.record_source.specs.declared.flaw.Flaw.TheVariants.{Cut, Wrong, Count}
use Rattle.record_source.specs.Fields.{Got, got, flawed, then, kept, field_from, field, limit, signed, fair, number_field, literal_field, count_field, total_field, in_row}
use Rattle.record_source.specs.Records.{Entry, line, last, la, ld, le, clause_fields, addition_fields, deletion_fields, last_fields, record_fields, first_record}
use Rattle.record_source.specs.Reading.{Reading, ends, fault_of, is_cut, counted, closing, read_record, read_from}
use Rattle.record_source.specs.Lefts.{reached, read_on, left}

-- what was got is good, and took m bytes or more
abbrev pub Good : {A : Type 0} → (A → Type 0) → ℕ → List ℕ → Got A → Type 0
Good P m bs (got x r) = P x × (m + length r ≤ length bs)
Good P m bs (flawed w) = Unit {0}

-- behind m bytes
longer : {A : Type 0} (P : A → Type 0) (m n : ℕ) (bs r : List ℕ) (g : Got A) → m + length r ≤ length bs → Good P n r g → Good P (m + n) bs g
longer P m n bs r (got x s) l h = (h.0, (let d = h.1 in omega arith))
longer P m n bs r (flawed w) l h = tt

weaker : {A : Type 0} (P : A → Type 0) (m n : ℕ) (bs : List ℕ) (g : Got A) → n ≤ m → Good P m bs g → Good P n bs g
weaker P m n bs (got x s) l h = (h.0, (let d = h.1 in omega arith))
weaker P m n bs (flawed w) l h = tt

then_good : {A B : Type 0} (P : A → Type 0) (Q : B → Type 0) (m n : ℕ) (bs : List ℕ) (g : Got A) (f : A → List ℕ → Got B) → Good P m bs g → ((x : A) (r : List ℕ) → P x → Good Q n r (f x r)) → Good Q (m + n) bs (then g f)
then_good P Q m n bs (got x r) f h k = longer Q m n bs r (f x r) h.1 (k x r h.0)
then_good P Q m n bs (flawed w) f h k = tt

kept_good : {A : Type 0} (P : A → Type 0) (test : A → Bool) (w : Flaw) (x : A) (r : List ℕ) → (test x ≡ true → P x) → Good P 0 r (kept test w x r)
kept_good P test w x r h = cond_both (test x) (got x r) (flawed w) (Good P 0 r) (λ e. (h e, omega arith)) (λ _. tt)

abbrev Any : {A : Type 0} → A → Type 0
Any x = Unit {0}

from_good : (k n : ℕ) (bs : List ℕ) → Good Any k bs (field_from k n bs)
from_good zero n bs = (tt, omega arith)
from_good (suc k) n [] = tt
from_good (suc k) n (b ∷ bs) = sooner (field_from k (n * 256 + b) bs) (from_good k (n * 256 + b) bs)
  where
    sooner : (g : Got ℕ) → Good Any k bs g → Good Any (suc k) (b ∷ bs) g
    sooner (got y s) d = (tt, (let a = d.1 in omega arith))
    sooner (flawed w) d = tt

fair_positive : (n : ℕ) → fair n ≡ true → Positive n
fair_positive n e = let p = and_parts (nat_le 1 n) (nat_le n limit) e in (leb-true 1 n p.0, leb-true n limit p.1)

number_good : (bs : List ℕ) → Good Positive 4 bs (number_field bs)
number_good bs = then_good Any Positive 4 0 bs (field 4 bs) (kept fair Wrong) (from_good 4 0 bs) (λ n r _. kept_good Positive fair Wrong n r (fair_positive n))

literal_good : (bs : List ℕ) → Good Literal 4 bs (literal_field bs)
literal_good bs =
    then_good Any Literal 4 0 bs (field 4 bs) (λ n r. kept (λ z. fair (unsigned_abs z)) Wrong (signed n) r) (from_good 4 0 bs)
    (λ n r _. kept_good Literal (λ z. fair (unsigned_abs z)) Wrong (signed n) r (fair_positive (unsigned_abs (signed n))))

count_good : (k m : ℕ) (bs : List ℕ) → Good (λ n. n ≤ m) (k + 0) bs (count_field k m bs)
count_good k m bs = then_good Any (λ n. n ≤ m) k 0 bs (field k bs) (kept (λ n. leb n m) Count) (from_good k 0 bs) (λ n r _. kept_good (λ n. n ≤ m) (λ n. leb n m) Count n r (leb-true n m))

abbrev Row : {A : Type 0} → (A → Type 0) → ℕ → List A → Type 0
Row P k xs = AllByRecursion P xs × (length xs ≤ k)

row_good : {A : Type 0} (P : A → Type 0) (one : List ℕ → Got A) → ((bs : List ℕ) → Good P 4 bs (one bs)) → (k : ℕ) (bs : List ℕ) → Good (Row P k) 0 bs (in_row one k bs)
row_good P one h zero bs = ((tt, omega arith), omega arith)
row_good P one h (suc k) bs =
    weaker (Row P (suc k)) 4 0 bs (in_row one (suc k) bs) (omega arith)
    (then_good P (Row P (suc k)) 4 0 bs (one bs) (λ x r. then (in_row one k r) (λ xs s. got (x ∷ xs) s)) (h bs)
    (λ x r p. then_good (Row P k) (Row P (suc k)) 0 0 r (in_row one k r) (λ xs s. got (x ∷ xs) s) (row_good P one h k r)
    (λ xs s q. (((p, q.0), (let l = q.1 in omega arith)), omega arith))))

abbrev pub EntryIn : Entry → Type 0
EntryIn (line x) = Within x
EntryIn (last n) = Unit {0}

clause_good : (n l h : ℕ) (bs : List ℕ) → Positive n → l ≤ 64 → h ≤ 256 → Good EntryIn 0 bs (clause_fields n l h bs)
clause_good n l h bs p a b =
    then_good (Row Literal l) EntryIn 0 0 bs (in_row literal_field l bs) (λ ls r. then (in_row number_field h r) (λ hs s. got (line (addition n ls hs)) s))
    (row_good Literal literal_field literal_good l bs)
    (λ ls r q. then_good (Row Positive h) EntryIn 0 0 r (in_row number_field h r) (λ hs s. got (line (addition n ls hs)) s)
    (row_good Positive number_field number_good h r)
    (λ hs s t. ((p, q.0, (let d = q.1 in omega arith), t.0, (let d = t.1 in omega arith)), omega arith)))

addition_good : (bs : List ℕ) → Good EntryIn 7 bs (addition_fields bs)
addition_good bs =
    then_good Positive EntryIn 4 3 bs (number_field bs) (λ n r. then (count_field 1 64 r) (λ l s. then (count_field 2 256 s) (λ h t. clause_fields n l h t)))
    (number_good bs)
    (λ n r p. then_good (λ l. l ≤ 64) EntryIn 1 2 r (count_field 1 64 r) (λ l s. then (count_field 2 256 s) (λ h t. clause_fields n l h t))
    (count_good 1 64 r)
    (λ l s a. then_good (λ h. h ≤ 256) EntryIn 2 0 s (count_field 2 256 s) (λ h t. clause_fields n l h t)
    (count_good 2 256 s)
    (λ h t b. clause_good n l h t p a b)))

deletion_good : (bs : List ℕ) → Good EntryIn 2 bs (deletion_fields bs)
deletion_good bs =
    then_good (λ k. k ≤ 256) EntryIn 2 0 bs (count_field 2 256 bs) (λ k r. then (in_row number_field k r) (λ ns s. got (line (deletion ns)) s))
    (count_good 2 256 bs)
    (λ k r a. then_good (Row Positive k) EntryIn 0 0 r (in_row number_field k r) (λ ns s. got (line (deletion ns)) s)
    (row_good Positive number_field number_good k r)
    (λ ns s t. ((t.0, (let d = t.1 in omega arith)), omega arith)))

last_good : (bs : List ℕ) → Good EntryIn 4 bs (last_fields bs)
last_good bs =
    then_good Any EntryIn 4 0 bs (total_field bs) (λ n r. got (last n) r)
    (then_good Any Any 4 0 bs (field 4 bs) (kept (λ n. leb n limit) Wrong) (from_good 4 0 bs) (λ n r _. kept_good Any (λ n. leb n limit) Wrong n r (λ _. tt)))
    (λ n r _. (tt, omega arith))

record_good : (mark : ℕ) (r : List ℕ) → Good EntryIn 2 r (record_fields mark r)
record_good mark r =
    cond_both (mark == la) (addition_fields r) _ (Good EntryIn 2 r) (λ _. weaker EntryIn 7 2 r (addition_fields r) (omega arith) (addition_good r))
    (λ _. cond_both (mark == ld) (deletion_fields r) _ (Good EntryIn 2 r) (λ _. deletion_good r)
    (λ _. cond_both (mark == le) (last_fields r) (flawed Wrong) (Good EntryIn 2 r) (λ _. weaker EntryIn 4 2 r (last_fields r) (omega arith) (last_good r)) (λ _. tt)))

-- a record takes four bytes or more
pub first_good : (bs : List ℕ) → Good EntryIn 4 bs (first_record bs)
first_good bs = then_good Any EntryIn 2 2 bs (field 2 bs) record_fields (from_good 2 0 bs) (λ mark r _. record_good mark r)

-- a reading of n bytes
abbrev Fine : ℕ → Reading → Type 0
Fine n r = AllWithin r.items × EndingWithin r.ending × (4 * length r.items ≤ n)

bad_fine : (n place : ℕ) (stopped : Bool) → Fine n (ends Record place stopped)
bad_fine n place stopped = (tt, inr (inr (inr refl)), omega arith)

flawed_fine : (n place : ℕ) (w : Flaw) → Fine n (ends (fault_of w) place (is_cut w))
flawed_fine n place Cut = bad_fine n place true
flawed_fine n place Wrong = bad_fine n place false
flawed_fine n place Count = (tt, inr (inr (inl refl)), omega arith)

closing_fine : (n count additions place rest : ℕ) → Fine n (closing count additions place rest)
closing_fine n count additions place rest =
    cond_both (count == additions) _ (ends Record place false) (Fine n)
    (λ _. cond_both (rest == 0) (ends NoItem 0 false) (ends Record (place + 1) false) (Fine n) (λ _. (tt, inl (refl, refl), omega arith)) (λ _. bad_fine n (place + 1) false))
    (λ _. bad_fine n place false)

record_fine : (place additions : ℕ) (bs : List ℕ) (g : Got Entry) (on : ℕ → List ℕ → Reading) → Good EntryIn 4 bs g → ((a : ℕ) (r : List ℕ) → Fine (length r) (on a r)) → Fine (length bs) (read_record place additions g on)
record_fine place additions bs (got (line x) r) on h k =
    let f = k (counted x additions) r in
    let l = h.1 in
    let m = f.2 in
    ((h.0, f.0), f.1, omega arith)
record_fine place additions bs (got (last n) r) on h k = closing_fine (length bs) n additions place (length r)
record_fine place additions bs (flawed w) on h k = flawed_fine (length bs) place w

read_fine : (n records additions : ℕ) (bs : List ℕ) → Fine (length bs) (read_from n records additions bs)
read_fine zero records additions bs = bad_fine (length bs) (records + 1) true
read_fine (suc n) records additions bs =
    record_fine (records + 1) additions bs (first_record bs) (read_from n (records + 1)) (first_good bs) (λ a r. read_fine n (records + 1) a r)

abbrev Kept : Reading → Type 0
Kept r = AllWithin r.items × EndingWithin r.ending × (length r.items < 2 ^ 63)

left_kept : (bytes : List ℕ) (at records additions : ℕ) → Kept (left bytes at records additions)
left_kept bytes at records additions =
    cond_both (reached bytes at records additions && nat_lt (length bytes) (2 ^ 64)) (read_on bytes at records additions) (ends NoItem 0 false) Kept
    (λ e.
    let f = read_fine (length bytes) records additions (drop at bytes) in
    let s = ltb-true (length bytes) (2 ^ 64) (and_parts (reached bytes at records additions) (nat_lt (length bytes) (2 ^ 64)) e).1 in
    (f.0, f.1, omega (arith, simp length-drop at f.2)))
    (λ _. (tt, inl (refl, refl), omega arith))

pub left_within : (bytes : List ℕ) (at records additions : ℕ) → AllWithin (left bytes at records additions).items
left_within bytes at records additions = (left_kept bytes at records additions).0

pub left_ends : (bytes : List ℕ) (at records additions : ℕ) → EndingWithin (left bytes at records additions).ending
left_ends bytes at records additions = (left_kept bytes at records additions).1

pub left_few : (bytes : List ℕ) (at records additions : ℕ) → length (left bytes at records additions).items < 2 ^ 63
left_few bytes at records additions = (left_kept bytes at records additions).2
