-- Why items and endings keep the limits, and why they are few enough to count. Assumes nothing.
use Rattle.std.specs.Prelude.{◌≡◌, ℕ, zero, suc, ◌+◌, ◌-◌, ◌*◌, ◌^◌, ◌<◌, ◌≤◌, Bool, false, ◌&&◌, List, [], ◌∷◌, map, length, drop, ℤ, pos, negsuc, Some, None, Option, ◌==◌, ◌≢◌, nat_le, nat_lt, unsigned_abs, refl}
use Rattle.std.proofs.Common.{arith, inl, inr, subst, sym, length-drop}
use Rattle.std.specs.List.{AllByRecursion}
use Rattle.std.proofs.lemmas.Bool.{cond_both, and_parts, leb-true, ltb-true, eqb-false}
use Rattle.answers.specs.declared.fault.Fault.{Fault}
use Rattle.answers.specs.declared.fault.Fault.TheVariants.{MisshapenLine, CountLimit}
use Rattle.source.specs.Items.{Item, addition, deletion}
use Rattle.source.specs.Limits.{Positive, Literal, Within, AllWithin, EndingWithin}
use Rattle.text.specs.Words.{limit, Token, natural, decimal_form, value_from, unsigned, negative, token_of, tokens_of, blank, words_of, join_first, lines_of}
use Rattle.text.specs.Words.Token.{number, word}
use Rattle.text_source.specs.Parse.{Run, got, off, behind, one_more, is_zero, collect, literal, signless, literals_in, numbers_in, Parsed, good, wrong, closed, deletion_of, hinted, addition_of, is_d, numbered, parse}
use Rattle.text_source.specs.Reading.{Reading, clean, then, line_then, no_lines, unfed, read_lines}
use Rattle.text_source.specs.Lefts.{read_from, left, items_left, ending_left}
use Rattle.text_source.specs.declared.cursor.TextSource.{TextSource}

-- numbers are within the limit
abbrev LowO : Option ℕ → Type 0
LowO None = Unit {0}
LowO (Some n) = n ≤ limit

abbrev Low : Token → Type 0
Low (number z) = unsigned_abs z ≤ limit
Low (word w) = Unit {0}

nat_low : (w : List ℕ) → LowO (natural w)
nat_low w = cond_both (decimal_form w && nat_le (value_from 0 w) limit) (Some (value_from 0 w)) None LowO (λ e. leb-true (value_from 0 w) limit (and_parts (decimal_form w) (nat_le (value_from 0 w) limit) e).1) (λ _. tt)

unsigned_low : (w : List ℕ) (o : Option ℕ) → LowO o → Low (unsigned w o)
unsigned_low w None h = tt
unsigned_low w (Some n) h = h

negative_low : (w : List ℕ) (o : Option ℕ) → LowO o → Low (negative w o)
negative_low w None h = tt
negative_low w (Some zero) h = tt
negative_low w (Some (suc n)) h = h

token_low : (w : List ℕ) → Low (token_of w)
token_low [] = tt
token_low (c ∷ cs) =
    cond_both (c == 45) (negative (c ∷ cs) (natural cs)) (unsigned (c ∷ cs) (natural (c ∷ cs))) Low (λ _. negative_low (c ∷ cs) (natural cs) (nat_low cs))
    (λ _. unsigned_low (c ∷ cs) (natural (c ∷ cs)) (nat_low (c ∷ cs)))

tokens_low : (ws : List (List ℕ)) → AllByRecursion Low (map token_of ws)
tokens_low [] = tt
tokens_low (w ∷ ws) = (token_low w, tokens_low ws)

-- the faults of a line
abbrev Off : Fault → Type 0
Off f = EndingWithin (record { fault = f; place = 1 })

misshapen_off : Off MisshapenLine
misshapen_off = inr (inl refl)

count_off : Off CountLimit
count_off = inr (inr (inl refl))

-- a run has at most k numbers that P holds of, or a fault
abbrev RunIn : {A : Type 0} → (A → Type 0) → ℕ → Run A → Type 0
RunIn P k (got xs ts) = AllByRecursion P xs × (length xs ≤ k) × AllByRecursion Low ts
RunIn P k (off f) = Off f

abbrev KeptIn : {A : Type 0} → (A → Type 0) → Option A → Type 0
KeptIn P None = Unit {0}
KeptIn P (Some x) = P x

behind_in : {A : Type 0} (P : A → Type 0) (k : ℕ) (x : A) (run : Run A) → (k ≢ 0) → P x → RunIn P (k - 1) run → RunIn P k (behind x run)
behind_in P k x (got xs ts) n p h = ((p, h.0), (let l = h.1 in room k (length xs) n l), h.2)
  where
    room : (k m : ℕ) → (k ≢ 0) → m ≤ k - 1 → suc m ≤ k
    room zero m n l = absurd (n refl)
    room (suc k) m n l = omega arith
behind_in P k x (off f) n p h = h

more_in : {A : Type 0} (P : A → Type 0) (k : ℕ) (o : Option A) (run : Run A) → KeptIn P o → RunIn P (k - 1) run → RunIn P k (one_more k o run)
more_in P k None run p h = misshapen_off
more_in P k (Some x) run p h = cond_both (k == 0) (off CountLimit) (behind x run) (RunIn P k) (λ _. count_off) (λ e. behind_in P k x run (eqb-false k 0 e) p h)

module _ {A : Type 0} (P : A → Type 0) (keep : ℤ → Option A) (kept : (z : ℤ) → is_zero z ≡ false → unsigned_abs z ≤ limit → KeptIn P (keep z)) where
  collect_in : (ts : List Token) (k : ℕ) → AllByRecursion Low ts → RunIn P k (collect keep k ts)
  collect_in [] k h = misshapen_off
  collect_in (number z ∷ ts) k h =
      cond_both (is_zero z) (got [] ts) (one_more k (keep z) (collect keep (k - 1) ts)) (RunIn P k) (λ _. (tt, omega arith, h.1))
      (λ e. more_in P k (keep z) (collect keep (k - 1) ts) (kept z e h.0) (collect_in ts (k - 1) h.1))
  collect_in (word w ∷ ts) k h = misshapen_off

literal_in : (z : ℤ) → is_zero z ≡ false → unsigned_abs z ≤ limit → KeptIn Literal (literal z)
literal_in (pos n) e h = (let x = eqb-false n 0 e in some n x, h)
  where
    some : (n : ℕ) → (n ≢ 0) → 1 ≤ n
    some zero x = absurd (x refl)
    some (suc n) x = omega arith
literal_in (negsuc n) e h = (omega arith, h)

signless_in : (z : ℤ) → is_zero z ≡ false → unsigned_abs z ≤ limit → KeptIn Positive (signless z)
signless_in (pos n) e h = literal_in (pos n) e h
signless_in (negsuc n) e h = tt

-- what a line says keeps the limits
abbrev Fine : Parsed → Type 0
Fine (good x) = Within x
Fine (wrong f) = Off f

closed_fine : (x : Item) (ts : List Token) → Within x → Fine (closed x ts)
closed_fine x [] w = w
closed_fine x (t ∷ ts) w = misshapen_off

deletion_fine : (run : Run ℕ) → RunIn Positive 256 run → Fine (deletion_of run)
deletion_fine (off f) h = h
deletion_fine (got ns ts) h = closed_fine (deletion ns) ts (h.0, h.1)

hinted_fine : (n : ℕ) (ls : List ℤ) (run : Run ℕ) → Positive n → AllByRecursion Literal ls → length ls ≤ 64 → RunIn Positive 256 run → Fine (hinted n ls run)
hinted_fine n ls (off f) p q l h = h
hinted_fine n ls (got hs ts) p q l h = closed_fine (addition n ls hs) ts (p, q, l, h.0, h.1)

addition_fine : (n : ℕ) (run : Run ℤ) → Positive n → RunIn Literal 64 run → Fine (addition_of n run)
addition_fine n (off f) p h = h
addition_fine n (got ls ts) p h = hinted_fine n ls (numbers_in ts) p h.0 h.1 (collect_in Positive signless signless_in ts 256 h.2)

numbered_fine : (n : ℕ) (ts : List Token) → n ≤ limit → AllByRecursion Low ts → Fine (numbered n ts)
numbered_fine n [] l h = misshapen_off
numbered_fine n (number z ∷ ts) l h =
    cond_both (n == 0) (wrong MisshapenLine) (addition_of n (literals_in (number z ∷ ts))) Fine (λ _. misshapen_off)
    (λ e. addition_fine n (literals_in (number z ∷ ts)) (literal_in (pos n) e l) (collect_in Literal literal literal_in (number z ∷ ts) 64 h))
numbered_fine n (word w ∷ ts) l h =
    cond_both (is_d w) (deletion_of (numbers_in ts)) (wrong MisshapenLine) Fine (λ _. deletion_fine (numbers_in ts) (collect_in Positive signless signless_in ts 256 h.1)) (λ _. misshapen_off)

parse_fine : (ts : List Token) → AllByRecursion Low ts → Fine (parse ts)
parse_fine [] h = misshapen_off
parse_fine (number (pos n) ∷ ts) h = numbered_fine n ts h.0 h.1
parse_fine (number (negsuc n) ∷ ts) h = misshapen_off
parse_fine (word w ∷ ts) h = misshapen_off

-- a reading keeps the limits
abbrev Keeps : Reading → Type 0
Keeps r = AllWithin r.items × EndingWithin r.ending

clean_keeps : Keeps clean
clean_keeps = (tt, inl (refl, refl))

off_at : (f : Fault) (place : ℕ) → Off f → EndingWithin (record { fault = f; place = place })
off_at f place (inl p) = absurd (let x = p.1 in omega arith)
off_at f place (inr p) = inr p

then_keeps : (place : ℕ) (stop : Bool) (p : Parsed) (r : Reading) → Fine p → Keeps r → Keeps (then place stop p r)
then_keeps place stop (good x) r w h = ((w, h.0), h.1)
then_keeps place stop (wrong f) r w h = (tt, off_at f place w)

line_keeps : (place : ℕ) (stop : Bool) (ts : List Token) (r : Reading) → AllByRecursion Low ts → Keeps r → Keeps (line_then place stop ts r)
line_keeps place stop [] r l h = h
line_keeps place stop (t ∷ ts) r l h = then_keeps place stop (parse (t ∷ ts)) r (parse_fine (t ∷ ts) l) h

lines_keep : (cut : Bool) (ls : List (List ℕ)) (p : ℕ) → Keeps (read_lines cut p ls)
lines_keep cut [] p = clean_keeps
lines_keep cut (l ∷ ls) p = line_keeps (p + 1) (cut && no_lines ls) (tokens_of l) (read_lines cut (p + 1) ls) (tokens_low (words_of l)) (lines_keep cut ls (p + 1))

left_keeps : (bytes : List ℕ) (at lines : ℕ) → Keeps (left bytes at lines)
left_keeps bytes at lines = cond_both (nat_le lines at && nat_lt (length bytes) (2 ^ 64)) (read_from bytes at lines) clean Keeps (λ _. lines_keep (unfed bytes) (lines_of (drop at bytes)) lines) (λ _. clean_keeps)

pub items_keep : (t : TextSource) → AllWithin (items_left t)
items_keep t = (left_keeps t.bytes.now t.at t.lines).0

pub ending_keeps : (t : TextSource) → EndingWithin (ending_left t)
ending_keeps t = (left_keeps t.bytes.now t.at t.lines).1

-- the bytes of lines, each with a line feed
abbrev size : List (List ℕ) → ℕ
size [] = 0
size (l ∷ ls) = length l + 1 + size ls

size_first : (c n : ℕ) (ls : List (List ℕ)) → size ls ≤ n + 1 → size (join_first c ls) ≤ suc n + 1
size_first c n [] h = omega arith
size_first c n (l ∷ ls) h = omega arith

size_lines : (bs : List ℕ) → size (lines_of bs) ≤ length bs + 1
size_lines [] = omega arith
size_lines (c ∷ cs) =
    let ih = size_lines cs in
    cond_both (c == 10) ([] ∷ lines_of cs) (join_first c (lines_of cs)) (λ ls. size ls ≤ suc (length cs) + 1) (λ _. omega arith) (λ _. size_first c (length cs) (lines_of cs) ih)

-- a line of one byte says nothing
one_wrong : (t : Token) → parse (t ∷ []) ≡ wrong MisshapenLine
one_wrong (number (pos n)) = refl
one_wrong (number (negsuc n)) = refl
one_wrong (word w) = refl

line_one : (place : ℕ) (stop : Bool) (c : ℕ) (r : Reading) → length (line_then place stop (tokens_of (c ∷ [])) r).items ≤ length r.items
line_one place stop c r =
    cond_both (blank c) [] ((c ∷ []) ∷ []) (λ ws. length (line_then place stop (map token_of ws) r).items ≤ length r.items) (λ _. omega arith)
    (λ _. let P : Parsed → Type 0 = λ p. length (then place stop p r).items ≤ length r.items in subst P (sym (one_wrong (token_of (c ∷ [])))) (omega arith))

then_one : (place : ℕ) (stop : Bool) (p : Parsed) (r : Reading) → length (then place stop p r).items ≤ length r.items + 1
then_one place stop (good x) r = omega arith
then_one place stop (wrong f) r = omega arith

line_more : (place : ℕ) (stop : Bool) (ts : List Token) (r : Reading) → length (line_then place stop ts r).items ≤ length r.items + 1
line_more place stop [] r = omega arith
line_more place stop (t ∷ ts) r = then_one place stop (parse (t ∷ ts)) r

-- so each item takes three bytes
lines_few : (cut : Bool) (ls : List (List ℕ)) (p : ℕ) → 3 * length (read_lines cut p ls).items ≤ size ls
lines_few cut [] p = omega arith
lines_few cut ([] ∷ ls) p = let ih = lines_few cut ls (p + 1) in omega arith
lines_few cut ((c ∷ []) ∷ ls) p =
    let ih = lines_few cut ls (p + 1) in
    let h = line_one (p + 1) (cut && no_lines ls) c (read_lines cut (p + 1) ls) in
    omega arith
lines_few cut ((c ∷ d ∷ ds) ∷ ls) p =
    let ih = lines_few cut ls (p + 1) in
    let h = line_more (p + 1) (cut && no_lines ls) (tokens_of (c ∷ d ∷ ds)) (read_lines cut (p + 1) ls) in
    omega arith

left_few : (bytes : List ℕ) (at lines : ℕ) → length (left bytes at lines).items < 2 ^ 63
left_few bytes at lines =
    cond_both (nat_le lines at && nat_lt (length bytes) (2 ^ 64)) (read_from bytes at lines) clean (λ r. length r.items < 2 ^ 63)
    (λ e.
    let s = ltb-true (length bytes) (2 ^ 64) (and_parts (nat_le lines at) (nat_lt (length bytes) (2 ^ 64)) e).1 in
    let a = lines_few (unfed bytes) (lines_of (drop at bytes)) lines in
    let b = size_lines (drop at bytes) in
    let d = length-drop at bytes in
    omega arith)
    (λ _. omega arith)

pub items_few : (t : TextSource) → length (items_left t) < 2 ^ 63
items_few t = left_few t.bytes.now t.at t.lines
