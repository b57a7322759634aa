-- One more line in the tables. Assumes nothing.
use Rattle.std.proofs.Common.{◌≡◌, ℕ, suc, ◌+◌, ◌<◌, ◌≤◌, List, [], ◌∷◌, ◌++◌, map, length, get_or, set, ℤ, sym, refl, ap, ◌∙◌, subst, ⊎_elim, arith}
use Rattle.std.proofs.lemmas.List.{length-append, length_push, length-set, get_or-set_same, get_or-set_other, map_push}
use Rattle.std.proofs.lemmas.List.Sums.{sum_by_push}
use Rattle.std.proofs.lemmas.Bool.{cases_eq}
use Rattle.formula.specs.Spans.{Ranged}
use Rattle.formula.proofs.SpanParts.{ranged_more}
use Rattle.lines.specs.declared.entry.Row.{Row}
use Rattle.lines.specs.Rows.{no_row, at, held_of, Within}
use Rattle.lines.specs.Index.{bucket_of, Headed, Linked, Indexed}
use Rattle.lines.proofs.Pushes.{at_old, at_new, each, part_old, part_new}

module _ (rs : List Row) (x : Row) where
  all_within : (l h a b : ℕ) → Within l h rs → l ≤ a → h ≤ b → x.literals.at + x.literals.len ≤ a → x.hints.at + x.hints.len ≤ b → Within a b (rs ++ x ∷ [])
  all_within l h a b old p q r s =
      let P : ℕ → Row → Type 0 = λ k e. (e.literals.at + e.literals.len ≤ a) × (e.hints.at + e.hints.len ≤ b) in
      each no_row rs x P (λ k t. let w = old k t in (omega arith, omega arith)) (r, s)

  module _ (B : ℕ → ℕ) (tops : List ℕ) (b : ℕ) (low : b < length tops) (mine : B x.number ≡ b) where
    top : get_or (set tops b (length rs)) b 0 ≡ length rs
    top = get_or-set_same tops b (length rs) 0 low

    last : at (rs ++ x ∷ []) (length rs) ≡ x
    last = at_new no_row rs x

    -- in the new line's bucket the new line is the head
    in_mine : (k : ℕ) (e : Row) → k ≤ length rs → B e.number ≡ b → (k ≤ get_or (set tops b (length rs)) (B e.number) 0) × (get_or (set tops b (length rs)) (B e.number) 0 < length (rs ++ x ∷ [])) × (B (at (rs ++ x ∷ []) (get_or (set tops b (length rs)) (B e.number) 0)).number ≡ B e.number)
    in_mine k e h is =
        let w : length (rs ++ x ∷ []) ≡ length rs + 1 = length_push rs x in
        let g : get_or (set tops b (length rs)) (B e.number) 0 ≡ length rs = ap (λ (i : ℕ). get_or (set tops b (length rs)) i 0) is ∙ top in
        (omega arith, omega arith, ap (λ (i : ℕ). B (at (rs ++ x ∷ []) i).number) g ∙ ap (λ (r : Row). B r.number) last ∙ mine ∙ sym is)

    all_headed : Headed B rs tops → Headed B (rs ++ x ∷ []) (set tops b (length rs))
    all_headed old =
        let w : length (rs ++ x ∷ []) ≡ length rs + 1 = length_push rs x in
        let P : ℕ → Row → Type 0 = λ k e. (k ≤ get_or (set tops b (length rs)) (B e.number) 0) × (get_or (set tops b (length rs)) (B e.number) 0 < length (rs ++ x ∷ [])) × (B (at (rs ++ x ∷ []) (get_or (set tops b (length rs)) (B e.number) 0)).number ≡ B e.number) in
        each no_row rs x P
        (λ k q.
        ⊎_elim (λ (is : B (at rs k).number ≡ b). in_mine k (at rs k) (omega arith) is)
        (λ (ne : B (at rs k).number ≡ b → ⊥).
        let g : get_or (set tops b (length rs)) (B (at rs k).number) 0 ≡ get_or tops (B (at rs k).number) 0 = get_or-set_other tops b (B (at rs k).number) (length rs) 0 ne in
        let o = old k q in
        let a = o.0 in
        let c = o.1 in
        let r : P k (at rs k) = (omega arith, omega arith, ap (λ (i : ℕ). B (at (rs ++ x ∷ []) i).number) g ∙ ap (λ (r : Row). B r.number) (at_old no_row rs x _ o.1) ∙ o.2) in r)
        (cases_eq (B (at rs k).number) b))
        (in_mine (length rs) x (omega arith) mine)

    all_linked : Headed B rs tops → Linked B rs → x.link ≡ get_or tops b 0 → Linked B (rs ++ x ∷ [])
    all_linked heads old is j k h =
        let rs' = rs ++ x ∷ [] in
        let P : ℕ → Row → Type 0 = λ k e. (j : ℕ) → j < k → B (at rs' j).number ≡ B e.number → (j ≤ e.link) × (e.link < k) × (B (at rs' e.link).number ≡ B e.number) in
        each no_row rs x P
        (λ k q j l e.
        let m : j < length rs = omega arith in
        let o = old j k (l, q, sym (ap (λ (r : Row). B r.number) (at_old no_row rs x j m)) ∙ e) in
        let a = o.1 in
        let n : (at rs k).link < length rs = omega arith in
        (o.0, o.1, ap (λ (r : Row). B r.number) (at_old no_row rs x _ n) ∙ o.2))
        (λ j l e.
        let f : B (at rs j).number ≡ b = sym (ap (λ (r : Row). B r.number) (at_old no_row rs x j l)) ∙ e ∙ mine in
        let o = heads j l in
        let g : get_or tops (B (at rs j).number) 0 ≡ x.link = ap (λ (i : ℕ). get_or tops i 0) f ∙ sym is in
        let c = o.0 in
        let d = o.1 in
        let n : x.link < length rs = omega arith in
        let r : (j ≤ x.link) × (x.link < length rs) × (B (at rs' x.link).number ≡ B x.number) = (omega arith, n, ap (λ (r : Row). B r.number) (at_old no_row rs x _ n) ∙ ap (λ (i : ℕ). B (at rs i).number) (sym g) ∙ o.2 ∙ f ∙ sym mine) in r)
        k h.1 j h.0 h.2

-- the lines stay, whatever is put behind
held_old : (ls us : List ℤ) (hs vs : List ℕ) (rs : List Row) → Within (length ls) (length hs) rs → map (held_of (ls ++ us) (hs ++ vs)) rs ≡ map (held_of ls hs) rs
held_old ls us hs vs [] w = refl
held_old ls us hs vs (e ∷ es) w =
    let p = part_old e.literals ls us (w 0 (omega arith)).0 in
    let q = part_old e.hints hs vs (w 0 (omega arith)).1 in
    let r = held_old ls us hs vs es (λ k h. w (suc k) (omega arith)) in
    cc

pub held_more : (ls us : List ℤ) (hs vs : List ℕ) (rs : List Row) (x : Row) → Within (length ls) (length hs) rs → x.literals.at ≡ length ls → x.literals.len ≡ length us → x.hints.at ≡ length hs → x.hints.len ≡ length vs → map (held_of (ls ++ us) (hs ++ vs)) (rs ++ x ∷ []) ≡ map (held_of ls hs) rs ++ (record { line = record { number = x.number; literals = us; hints = vs }; alive = x.alive }) ∷ []
held_more ls us hs vs rs x w a b c d =
    let m = map_push (held_of (ls ++ us) (hs ++ vs)) rs x in
    let o = held_old ls us hs vs rs w in
    let p = part_new x.literals ls us a b in
    let q = part_new x.hints hs vs c d in
    cc

pub stored : (v o : ℕ) (ls us ls' : List ℤ) (hs vs hs' : List ℕ) (rs rs' : List Row) (tops tops' : List ℕ) (b : ℕ) (x : Row) →
    Indexed v o ls hs rs tops → ls' ≡ ls ++ us → hs' ≡ hs ++ vs → rs' ≡ rs ++ x ∷ [] → tops' ≡ set tops b (length rs) →
    x.literals.at ≡ length ls → x.literals.len ≡ length us → x.hints.at ≡ length hs → x.hints.len ≡ length vs → x.link ≡ get_or tops b 0 → Ranged v us →
    b < length tops → b ≡ bucket_of o (length tops) x.number →
    ∥ Indexed v o ls' hs' rs' tops' ∥₁
stored v o ls us ls' hs vs hs' rs rs' tops tops' b x t el eh er et la ll ha hl lk rg low mine =
    let a = length-append ls us in
    let c = length-append hs vs in
    let p = sum_by_push (λ (r : Row). r.literals.len) rs x in
    let q = sum_by_push (λ (r : Row). r.hints.len) rs x in
    let tl = t.literals in
    let th = t.hints in
    let B = bucket_of o (length tops) in
    let z : length (set tops b (length rs)) ≡ length tops = length-set tops b (length rs) in
    let k : Indexed v o (ls ++ us) (hs ++ vs) (rs ++ x ∷ []) (set tops b (length rs)) = record {
      literals = p ∙ ap (λ (n : ℕ). n + x.literals.len) tl ∙ ap (λ (n : ℕ). length ls + n) ll ∙ sym a;
      hints = q ∙ ap (λ (n : ℕ). n + x.hints.len) th ∙ ap (λ (n : ℕ). length hs + n) hl ∙ sym c;
      within = all_within rs x (length ls) (length hs) _ _ t.within (omega arith) (omega arith) (omega arith) (omega arith);
      ranged = ranged_more v ls us t.ranged rg;
      headed = subst (λ (c : ℕ). Headed (bucket_of o c) (rs ++ x ∷ []) (set tops b (length rs))) (sym z) (all_headed rs x B tops b low (sym mine) t.headed);
      linked = subst (λ (c : ℕ). Linked (bucket_of o c) (rs ++ x ∷ [])) (sym z) (all_linked rs x B tops b low (sym mine) t.headed t.linked lk);
    } in
    subst (λ (l : List ℤ). ∥ Indexed v o l hs' rs' tops' ∥₁) (sym el) (subst (λ (l : List ℕ). ∥ Indexed v o (ls ++ us) l rs' tops' ∥₁) (sym eh) (subst (λ (l : List Row). ∥ Indexed v o (ls ++ us) (hs ++ vs) l tops' ∥₁) (sym er) (subst (λ (l : List ℕ). ∥ Indexed v o (ls ++ us) (hs ++ vs) (rs ++ x ∷ []) l ∥₁) (sym et) ∣ k ∣₁)))
