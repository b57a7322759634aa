-- Why items that are written as records are read back. Assumes nothing.
use Rattle.std.proofs.Common.{◌≡◌, ℕ, suc, ◌+◌, ◌-◌, ◌*◌, ◌/◌, ◌%◌, ◌<◌, ◌≤◌, Bool, true, false, eqb, ltb, leb, List, [], ◌∷◌, ◌++◌, length, ℤ, pos, negsuc, nat_abs, refl, ap, ◌∙◌, append_assoc, arith, length-append}
use Rattle.std.specs.List.{flat_map, AllByRecursion}
use Rattle.std.proofs.lemmas.Nat.{shr-shr}
use Rattle.std.proofs.lemmas.Bool.{and_from, cond-true, cond-false, le-leb, lt-ltb, le-ltb, eq-eqb}
use Rattle.answers.specs.declared.fault.Fault.TheVariants.{NoItem, Record}
use Rattle.source.specs.Items.{Item, addition, deletion}
use Rattle.source.specs.Limits.{Positive, Literal, Within}
use Rattle.record_source.specs.declared.flaw.Flaw.TheVariants.{Wrong, Count}
use Rattle.record_source.specs.Fields.{Got, got, flawed, then, kept, field, limit, signed, fair, number_field, literal_field, count_field, total_field, in_row}
use Rattle.record_source.specs.Records.{line, last, clause_fields, first_record}
use Rattle.record_source.specs.Reading.{ends, before, counted, closing, read_record, read_from}
use Rattle.record_source.specs.Written.{bytes_of, unsigned, literal_bytes, number_bytes, record_of, last_record, additions_in, records_of}
use Rattle.record_source.specs.Laws.{whole, ReadsBack}
use Rattle.record_source.proofs.Places.{read_same}

-- a test that what was got passes
passed : {A : Type 0} (test : A → Bool) (x : A) (r : List ℕ) → test x ≡ true → kept test Wrong x r ≡ got x r
passed test x r e = cond-true (test x) (got x r) (flawed Wrong) e

one_back : (n : ℕ) (r : List ℕ) → n < 256 → field 1 (bytes_of 1 n ++ r) ≡ got n r
one_back n r h = ap (λ v. got v r) (let e : 0 + n / 1 % 256 ≡ n = omega arith in e)

two_back : (n : ℕ) (r : List ℕ) → n < 65536 → field 2 (bytes_of 2 n ++ r) ≡ got n r
two_back n r h = ap (λ v. got v r) (let e : (0 + n / 256 % 256) * 256 + n / 1 % 256 ≡ n = omega arith in e)

four_back : (n : ℕ) (r : List ℕ) → n < 4294967296 → field 4 (bytes_of 4 n ++ r) ≡ got n r
four_back n r h =
    let u : n / 256 / 256 ≡ n / 65536 = shr-shr n 8 8 in
    let v : n / 65536 / 256 ≡ n / 16777216 = shr-shr n 16 8 in
    let top : n / 16777216 % 256 ≡ n / 16777216 = omega arith in
    ap (λ w. got w r) (digits (n / 16777216) (n / 65536) (n / 256) n (n / 16777216 % 256) (n / 1 % 256) top (below (n / 65536) (n / 16777216) v) (below (n / 256) (n / 65536) u) (omega arith))
  where
    below : (m q : ℕ) → m / 256 ≡ q → q * 256 + m % 256 ≡ m
    below m q e = omega arith

    digits : (a b c n d e : ℕ) → d ≡ a → a * 256 + b % 256 ≡ b → b * 256 + c % 256 ≡ c → c * 256 + e ≡ n → (((0 + d) * 256 + b % 256) * 256 + c % 256) * 256 + e ≡ n
    digits a b c n d e p q r s = omega arith

is_fair : (n : ℕ) → Positive n → fair n ≡ true
is_fair n p = and_from (leb 1 n) (leb n limit) (le-leb 1 n p.0) (le-leb n limit p.1)

number_back : (n : ℕ) → Positive n → (r : List ℕ) → number_field (number_bytes n ++ r) ≡ got n r
number_back n p r = let h = p.1 in ap (λ g. then g (kept fair Wrong)) (four_back n r (omega arith)) ∙ passed fair n r (is_fair n p)

unsigned_low : (z : ℤ) → Literal z → unsigned z < 4294967296
unsigned_low (pos n) p = let h = p.1 in omega arith
unsigned_low (negsuc n) p = omega arith

signed_back : (z : ℤ) → Literal z → signed (unsigned z) ≡ z
signed_back (pos n) p = let h = p.1 in cond-true (ltb n 2147483648) (pos n) (negsuc (4294967295 - n)) (lt-ltb n 2147483648 (omega arith))
signed_back (negsuc n) p =
    let h = p.1 in
    let m = 4294967295 - n in
    let e : 4294967295 - (4294967295 - n) ≡ n = omega arith in
    cond-false (ltb m 2147483648) (pos m) (negsuc (4294967295 - m)) (le-ltb m 2147483648 (omega arith)) ∙ ap negsuc e

literal_back : (z : ℤ) → Literal z → (r : List ℕ) → literal_field (literal_bytes z ++ r) ≡ got z r
literal_back z p r =
    ap (λ g. then g (λ n r. kept (λ z. fair (nat_abs z)) Wrong (signed n) r)) (four_back (unsigned z) r (unsigned_low z p))
    ∙ ap (λ y. kept (λ z. fair (nat_abs z)) Wrong y r) (signed_back z p)
    ∙ passed (λ z. fair (nat_abs z)) z r (is_fair (nat_abs z) p)

literals_count : (n : ℕ) → n ≤ 64 → (r : List ℕ) → count_field 1 64 (bytes_of 1 n ++ r) ≡ got n r
literals_count n h r = ap (λ g. then g (kept (λ n. leb n 64) Count)) (one_back n r (omega arith)) ∙ cond-true (leb n 64) (got n r) (flawed Count) (le-leb n 64 h)

numbers_count : (n : ℕ) → n ≤ 256 → (r : List ℕ) → count_field 2 256 (bytes_of 2 n ++ r) ≡ got n r
numbers_count n h r = ap (λ g. then g (kept (λ n. leb n 256) Count)) (two_back n r (omega arith)) ∙ cond-true (leb n 256) (got n r) (flawed Count) (le-leb n 256 h)

total_back : (n : ℕ) → n ≤ limit → (r : List ℕ) → total_field (bytes_of 4 n ++ r) ≡ got n r
total_back n h r = ap (λ g. then g (kept (λ n. leb n limit) Wrong)) (four_back n r (omega arith)) ∙ passed (λ n. leb n limit) n r (le-leb n limit h)

row_back : {A : Type 0} (P : A → Type 0) (one : List ℕ → Got A) (write : A → List ℕ) → ((x : A) → P x → (r : List ℕ) → one (write x ++ r) ≡ got x r) → (xs : List A) → AllByRecursion P xs → (r : List ℕ) → in_row one (length xs) (flat_map write xs ++ r) ≡ got xs r
row_back P one write back [] h r = refl
row_back P one write back (x ∷ xs) h r =
    ap (in_row one (suc (length xs))) (append_assoc (write x) (flat_map write xs) r)
    ∙ ap (λ g. then g (λ x r. then (in_row one (length xs) r) (λ xs s. got (x ∷ xs) s))) (back x h.0 (flat_map write xs ++ r))
    ∙ ap (λ g. then g (λ xs s. got (x ∷ xs) s)) (row_back P one write back xs h.1 r)

clause_back : (n : ℕ) (ls : List ℤ) (hs : List ℕ) → AllByRecursion Literal ls → AllByRecursion Positive hs → (r : List ℕ) → clause_fields n (length ls) (length hs) ((flat_map literal_bytes ls ++ flat_map number_bytes hs) ++ r) ≡ got (line (addition n ls hs)) r
clause_back n ls hs p q r =
    ap (clause_fields n (length ls) (length hs)) (append_assoc (flat_map literal_bytes ls) (flat_map number_bytes hs) r)
    ∙ ap (λ g. then g (λ ls r. then (in_row number_field (length hs) r) (λ hs s. got (line (addition n ls hs)) s))) (row_back Literal literal_field literal_bytes literal_back ls p (flat_map number_bytes hs ++ r))
    ∙ ap (λ g. then g (λ hs s. got (line (addition n ls hs)) s)) (row_back Positive number_field number_bytes number_back hs q r)

record_back : (x : Item) → Within x → (r : List ℕ) → first_record (record_of x ++ r) ≡ got (line x) r
record_back (addition n ls hs) w r =
    let rest = (flat_map literal_bytes ls ++ flat_map number_bytes hs) ++ r in
    ap (λ g. then g (λ n r. then (count_field 1 64 r) (λ l s. then (count_field 2 256 s) (λ h t. clause_fields n l h t)))) (number_back n w.0 (bytes_of 1 (length ls) ++ (bytes_of 2 (length hs) ++ rest)))
    ∙ ap (λ g. then g (λ l s. then (count_field 2 256 s) (λ h t. clause_fields n l h t))) (literals_count (length ls) w.2 (bytes_of 2 (length hs) ++ rest))
    ∙ ap (λ g. then g (λ h t. clause_fields n (length ls) h t)) (numbers_count (length hs) w.4 rest)
    ∙ clause_back n ls hs w.1 w.3 r
record_back (deletion ns) w r =
    ap (λ g. then g (λ k r. then (in_row number_field k r) (λ ns s. got (line (deletion ns)) s))) (numbers_count (length ns) w.1 (flat_map number_bytes ns ++ r))
    ∙ ap (λ g. then g (λ ns s. got (line (deletion ns)) s)) (row_back Positive number_field number_bytes number_back ns w.0 r)

last_back : (n : ℕ) → n ≤ limit → first_record (last_record n) ≡ got (last n) []
last_back n h = ap (λ g. then g (λ n r. got (last n) r)) (total_back n h [])

counted_on : (x : Item) (a m : ℕ) → a + counted x m ≡ counted x a + m
counted_on (addition n ls hs) a m = omega arith
counted_on (deletion ns) a m = refl

counted_most : (x : Item) (m : ℕ) → counted x m ≤ suc m
counted_most (addition n ls hs) m = omega arith
counted_most (deletion ns) m = omega arith

additions_most : (xs : List Item) → additions_in xs ≤ length xs
additions_most [] = omega arith
additions_most (x ∷ xs) = omega (arith, counted_most x (additions_in xs), additions_most xs)

closing_back : (c a place : ℕ) → c ≡ a → closing c a place 0 ≡ ends NoItem 0 false
closing_back c a place e = cond-true (eqb c a) (ends NoItem 0 false) (ends Record place false) (eq-eqb c a e)

read_back : (xs : List Item) (n p a c : ℕ) → AllByRecursion Within xs → c ≡ a + additions_in xs → c ≤ limit → length (flat_map record_of xs ++ last_record c) ≤ n → read_from n p a (flat_map record_of xs ++ last_record c) ≡ whole (p + 1) xs
read_back [] n p a c w e l h =
    read_same n (suc n) p a (last_record c) h (omega arith)
    ∙ ap (λ g. read_record (p + 1) a g (read_from n (p + 1))) (last_back c l)
    ∙ closing_back c a (p + 1) (omega arith)
read_back (x ∷ xs) n p a c w e l h =
    let rest = flat_map record_of xs ++ last_record c in
    let split = append_assoc (record_of x) (flat_map record_of xs) (last_record c) in
    let shorter : length (flat_map record_of xs ++ last_record c) ≤ n = omega (arith, ap length split, length-append (record_of x) (flat_map record_of xs ++ last_record c)) in
    read_same n (suc n) p a (flat_map record_of (x ∷ xs) ++ last_record c) h (omega arith)
    ∙ ap (λ bs. read_record (p + 1) a (first_record bs) (read_from n (p + 1))) split
    ∙ ap (λ g. read_record (p + 1) a g (read_from n (p + 1))) (record_back x w.0 rest)
    ∙ ap (before x (p + 1)) (read_back xs n (p + 1) (counted x a) c w.1 (e ∙ counted_on x a (additions_in xs)) l shorter)

pub reads_back : ReadsBack
reads_back xs w h =
    read_back xs (length (records_of xs)) 0 0 (additions_in xs) w (omega arith) (omega (arith, additions_most xs)) (omega arith)
