-- The line that a number names. Assumes nothing.
use Rattle.std.proofs.Common.{◌≡◌, ℕ, zero, suc, ◌<◌, ◌≤◌, Bool, true, false, cond, ◌&&◌, eqb, List, [], ◌∷◌, map, length, get_or, ℤ, Some, None, Option, sym, refl, ap, ◌∙◌, subst, ⊎_elim, le_of_suc-le-suc, arith}
use Rattle.std.specs.Option.{option_map, option_or}
use Rattle.std.proofs.lemmas.List.{length-map, get_or-map}
use Rattle.std.proofs.lemmas.Bool.{cases_Bool, cond-true, cond-false, lt-leb}
use Rattle.tables.specs.Filled.{filled}
use Rattle.lines.specs.declared.entry.Row.{Row}
use Rattle.lines.specs.declared.lines.Lines.{Lines}
use Rattle.formula.specs.Clauses.{Clause}
use Rattle.lines.specs.Held.{Line, Held, no_held, living, only_if, line_named, literals_of, clause_named, names, place_named}
use Rattle.lines.specs.Rows.{at, no_row, row_of, rows_of, held_of}
use Rattle.lines.specs.Tables.{held_in}
use Rattle.lines.proofs.Finds.{Names}

pub place_none : (h : ℕ) (xs : List Held) → ((k : ℕ) → k < length xs → names h (get_or xs k no_held) ≡ true → ⊥) → place_named xs h ≡ None
place_none h [] none = refl
place_none h (x ∷ xs) none =
    let r = place_none h xs (λ k q n. none (suc k) (omega arith) n) in
    ap (λ (o : Option ℕ). option_or (option_map suc o) (only_if (names h x) 0)) r
    ∙ ⊎_elim (λ (t : names h x ≡ true). absurd (none 0 (omega arith) t)) (λ (f : names h x ≡ false). cond-false (names h x) (Some 0) None f) (cases_Bool (names h x))

pub place_some : (h : ℕ) (xs : List Held) (t : ℕ) → t < length xs → names h (get_or xs t no_held) ≡ true → ((k : ℕ) → k < length xs → names h (get_or xs k no_held) ≡ true → k ≤ t) → place_named xs h ≡ Some t
place_some h [] t q is last = absurd (omega arith)
place_some h (x ∷ xs) zero q is last =
    let r = place_none h xs (λ k q n. let w = last (suc k) (omega arith) n in omega arith) in
    ap (λ (o : Option ℕ). option_or (option_map suc o) (only_if (names h x) 0)) r ∙ cond-true (names h x) (Some 0) None is
place_some h (x ∷ xs) (suc t) q is last =
    let r = place_some h xs t (le_of_suc-le-suc q) is (λ k q n. let w = last (suc k) (omega arith) n in omega arith) in
    ap (λ (o : Option ℕ). option_or (option_map suc o) (only_if (names h x) 0)) r

-- by the rows

module _ (ls : List ℤ) (hs : List ℕ) (rs : List Row) (h : ℕ) where
  pub is_held : (k : ℕ) → k < length rs → get_or (map (held_of ls hs) rs) k no_held ≡ held_of ls hs (at rs k)
  is_held k q = get_or-map (held_of ls hs) rs k no_row no_held q

  short : (k : ℕ) → k < length (map (held_of ls hs) rs) → k < length rs
  short k q = subst (λ (n : ℕ). k < n) (length-map rs (held_of ls hs)) q

  row_names : (k : ℕ) → k < length rs → names h (get_or (map (held_of ls hs) rs) k no_held) ≡ true → Names h (at rs k)
  row_names k q n = ap (names h) (sym (is_held k q)) ∙ n

  pub named_none : ((k : ℕ) → k < length rs → Names h (at rs k) → ⊥) → place_named (map (held_of ls hs) rs) h ≡ None
  named_none none = place_none h (map (held_of ls hs) rs) (λ k q n. none k (short k q) (row_names k (short k q) n))

  pub named_some : (t : ℕ) → t < length rs → Names h (at rs t) → ((k : ℕ) → k < length rs → Names h (at rs k) → k ≤ t) → place_named (map (held_of ls hs) rs) h ≡ Some t
  named_some t q is last =
      place_some h (map (held_of ls hs) rs) t (subst (λ (n : ℕ). t < n) (sym (length-map rs (held_of ls hs))) q) (ap (names h) (is_held t q) ∙ is)
      (λ k r n. last k (short k r) (row_names k (short k r) n))

-- a place that is named is one of the list
pub place_within : (h : ℕ) (xs : List Held) (t : ℕ) → place_named xs h ≡ Some t → t < length xs
place_within h [] t e = cc
place_within h (x ∷ xs) t e = step h x xs (place_named xs h) (place_within h xs) (names h x) refl t e
  where
    step : (h : ℕ) (x : Held) (xs : List Held) (o : Option ℕ) → ((t : ℕ) → place_named xs h ≡ Some t → t < length xs) → (b : Bool) → place_named xs h ≡ o → (t : ℕ) → option_or (option_map suc o) (only_if b 0) ≡ Some t → t < suc (length xs)
    step h x xs (Some u) on b is t e = let w = on u is in let z : suc u ≡ t = cc in omega arith
    step h x xs None on true is t e = let z : ◌≡◌ {A = ℕ} 0 t = cc in omega arith
    step h x xs None on false is t e = cc

pub place_filled : (t : Lines) (h k : ℕ) → place_named (held_in t) h ≡ Some k → k < length (filled t.entries)
place_filled t h k e =
    let w = place_within h (held_in t) k e in
    let n : length (held_in t) ≡ length (filled t.entries) = length-map (rows_of t.entries) _ ∙ length-map (filled t.entries) row_of in
    omega arith

-- a number names the same line among the living as by its place
pub named_place : (xs : List Held) (h : ℕ) → line_named (living xs) h ≡ option_map (λ t. (get_or xs t no_held).line) (place_named xs h)
named_place [] h = refl
named_place (x ∷ xs) h = by_life x.alive (eqb x.line.number h) refl (place_named xs h) (named_place xs h)
  where
    by_life : (a b : Bool) → eqb x.line.number h ≡ b → (o : Option ℕ) → line_named (living xs) h ≡ option_map (λ t. (get_or xs t no_held).line) o → line_named (cond a (x.line ∷ living xs) (living xs)) h ≡ option_map (λ t. (get_or (x ∷ xs) t no_held).line) (option_or (option_map suc o) (only_if (a && b) 0))
    by_life true b e (Some t) is = ap (λ (p : Option Line). option_or p (only_if (eqb x.line.number h) x.line)) is
    by_life true true e None is = ap (λ (p : Option Line). option_or p (only_if (eqb x.line.number h) x.line)) is ∙ ap (λ c. only_if c x.line) e
    by_life true false e None is = ap (λ (p : Option Line). option_or p (only_if (eqb x.line.number h) x.line)) is ∙ ap (λ c. only_if c x.line) e
    by_life false b e (Some t) is = is
    by_life false b e None is = is

-- a number above o names a line, if anything
pub named_high : (cs : List Clause) (xs : List Held) (h : ℕ) (o : Option ℕ) → length cs < h → o ≡ place_named xs h → clause_named cs (living xs) h ≡ option_map literals_of (option_map (λ t. (get_or xs t no_held).line) o)
named_high cs xs h o q e =
    cond-false _ _ _ (lt-leb h (length cs) q)
    ∙ ap (option_map literals_of) (named_place xs h ∙ ap (option_map (λ t. (get_or xs t no_held).line)) (sym e))
