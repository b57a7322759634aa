-- Spans, the parts of a table that they are, and what is written over its front. Assumes nothing.
use Rattle.std.proofs.Common.{◌≡◌, ℕ, zero, suc, ◌+◌, ◌-◌, ◌<◌, ◌≤◌, List, [], ◌∷◌, ◌++◌, map, length, take, drop, ℤ, pos, Some, Option, sym, refl, ap, ◌∙◌, arith}
use Rattle.std.specs.List.{slice_get, AllByRecursion}
use Rattle.std.specs.Option.{option_map}
use Rattle.std.proofs.ByRecursion.{All-get_or}
use Rattle.std.proofs.lemmas.Option.{slice_get-map}
use Rattle.std.proofs.lemmas.List.{length-take, length-drop, length-append, get_or-take, get_or-drop, append_assoc, take_at, drop_at, drop-drop, flat_map_more}
use Rattle.tables.specs.Filled.{over}
use Rattle.formula.specs.declared.span.Span.{Span}
use Rattle.formula.specs.Clauses.{Clause, LiteralOf, literals_of}
use Rattle.formula.specs.Formulas.{numbered}
use Rattle.formula.specs.Spans.{no_span, part, Inside, Ranged, spans_from}
use Rattle.formula.proofs.Elements.{each, both, each_nth}

-- what a table of spans and one of literals keep as they grow

pub inside_more : (l m : ℕ) (ss : List Span) (s : Span) → Inside l ss → l ≤ m → s.at + s.len ≤ m → Inside m (ss ++ s ∷ [])
inside_more l m ss s old p q = each no_span ss s (λ s. s.at + s.len ≤ m) (λ k h. let w = old k h in omega arith) q

pub ranged_more : (v : ℕ) (xs ys : List ℤ) → Ranged v xs → Ranged v ys → Ranged v (xs ++ ys)
ranged_more v xs ys a b = both (pos 0) (LiteralOf v) xs ys a b

pub ranged_all : (v : ℕ) (ls : List ℤ) → AllByRecursion (LiteralOf v) ls → Ranged v ls
ranged_all v ls a k h = All-get_or (LiteralOf v) ls k (pos 0) h a

-- the part that one span is

pub ranged_part : (v : ℕ) (ls : List ℤ) (s : Span) → Ranged v ls → Ranged v (part s ls)
ranged_part v ls s h j l =
    let b = simp (length-take, length-drop) at l in
    let jk : j < s.len = omega arith in
    let x : s.at + j < length ls = omega arith in
    rw (get_or-take, get_or-drop) (h (s.at + j) x)

pub inside_nth : (n : ℕ) (ss : List Span) (k : ℕ) (s : Span) → Inside n ss → slice_get ss k ≡ Some s → s.at + s.len ≤ n
inside_nth n ss k s h e = each_nth no_span (λ s. s.at + s.len ≤ n) ss k s e h

numbered_nth : (cs : List Clause) (n : ℕ) → (n ≡ 0 → ⊥) → numbered cs n ≡ slice_get cs (n - 1)
numbered_nth cs zero h = absurd (h refl)
numbered_nth cs (suc n) h = let e : suc n - 1 ≡ n = omega arith in ap (slice_get cs) (sym e)

-- the clause with a number is the part that its span is
pub numbered_part : (ls : List ℤ) (ss : List Span) (n : ℕ) (o : Option Span) → (n ≡ 0 → ⊥) → o ≡ slice_get ss (n - 1) → option_map (λ s. part s ls) o ≡ numbered (map (λ s. part s ls) ss) n
numbered_part ls ss n o h e = sym (numbered_nth (map (λ s. part s ls) ss) n h ∙ slice_get-map (λ s. part s ls) ss (n - 1) ∙ ap (option_map (λ s. part s ls)) (sym e))

-- clauses that lie one behind the other

pub literals_more : (cs : List Clause) (c : Clause) → literals_of (cs ++ c ∷ []) ≡ literals_of cs ++ c
literals_more cs c = sym (flat_map_more (λ c. c) [] cs c)

pub spans_length : (n : ℕ) (cs : List Clause) → length (spans_from n cs) ≡ length cs
spans_length n [] = refl
spans_length n (c ∷ cs) = ap suc (spans_length (n + length c) cs)

pub spans_more : (n : ℕ) (cs : List Clause) (c : Clause) → spans_from n (cs ++ c ∷ []) ≡ spans_from n cs ++ record { at = n + length (literals_of cs); len = length c } ∷ []
spans_more n [] c =
    let e : n ≡ n + 0 = omega arith in
    ap (λ (k : ℕ). spans_from k (c ∷ [])) e
spans_more n (d ∷ cs) c =
    let e : (n + length d) + length (literals_of cs) ≡ n + length (literals_of (d ∷ cs)) = simp length-append (omega arith) in
    let f : Span = record { at = n; len = length d } in
    ap (λ (ss : List Span). f ∷ ss) (spans_more (n + length d) cs c ∙ ap (λ (k : ℕ). spans_from (n + length d) cs ++ spans_from k (c ∷ [])) e)

-- the parts are the clauses, also behind other literals
parts_behind : (ps : List ℤ) (cs : List Clause) → map (λ s. part s (ps ++ literals_of cs)) (spans_from (length ps) cs) ≡ cs
parts_behind ps [] = refl
parts_behind ps (c ∷ cs) =
    let r = literals_of cs in
    let a : part (record { at = length ps; len = length c }) (ps ++ (c ++ r)) ≡ c = ap (take (length c)) (drop_at ps (c ++ r) (length ps) refl) ∙ take_at c r (length c) refl in
    let b : map (λ s. part s (ps ++ (c ++ r))) (spans_from (length ps + length c) cs) ≡ cs = ap (λ (l : List ℤ). map (λ s. part s l) (spans_from (length ps + length c) cs)) (sym (append_assoc ps c r)) ∙ ap (λ (n : ℕ). map (λ s. part s ((ps ++ c) ++ r)) (spans_from n cs)) (sym (length-append ps c)) ∙ parts_behind (ps ++ c) cs in
    cc

pub parts_spans : (cs : List Clause) → map (λ s. part s (literals_of cs)) (spans_from 0 cs) ≡ cs
parts_spans cs = parts_behind [] cs

-- what is written over the front of a list

pub over_nothing : {X : Type 0} (s : List X) → over s 0 [] ≡ s
over_nothing s = refl

pub over_keeps : {X : Type 0} (s xs : List X) → length xs ≤ length s → length (over s 0 xs) ≡ length s
over_keeps s xs h = simp (length-append, length-drop) (omega arith)

pub over_over : {X : Type 0} (s xs ys : List X) → length xs + length ys ≤ length s → over (over s 0 xs) (length xs) ys ≡ over s 0 (xs ++ ys)
over_over s xs ys h =
    let d = drop (0 + length xs) s in
    let t : take (length xs) (xs ++ d) ≡ xs = take_at xs d (length xs) refl in
    let u : drop (length xs + length ys) (xs ++ d) ≡ drop (0 + length (xs ++ ys)) s = sym (drop-drop (length ys) (length xs) (xs ++ d)) ∙ ap (drop (length ys)) (drop_at xs d (length xs) refl) ∙ drop-drop (length ys) (0 + length xs) s ∙ ap (λ (k : ℕ). drop k s) (simp length-append (omega arith)) in
    ap (λ (l : List _). l ++ (ys ++ drop (length xs + length ys) (xs ++ d))) t ∙ ap (λ (l : List _). xs ++ (ys ++ l)) u ∙ sym (append_assoc xs ys (drop (0 + length (xs ++ ys)) s))
