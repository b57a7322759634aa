-- The list of a source, item by item. Assumes nothing.
use Rattle.std.proofs.Common.{◌≡◌, ℕ, Bool, true, false, leb, List, [], ◌∷◌, ◌++◌, length, take, drop, ℤ, Ok, Err, sym, refl, ap, ◌∙◌, append_assoc, arith}
use Rattle.std.proofs.lemmas.List.{take_at}
use Rattle.std.proofs.lemmas.Bool.{le-leb, and_from}
use Rattle.answers.specs.declared.refusal.Refusal.{Refusal}
use Rattle.answers.specs.Refusals.{refusal_at}
use Rattle.source.specs.declared.head.Head.{Head}
use Rattle.source.specs.Items.{Item, addition, deletion, Placed, Ending, literals_of, hints_of, behind_first, first_literals, first_hints, onto}
use Rattle.source.specs.Looks.{head_of, ended, looked, wide, written}
use Rattle.source.specs.Bodies.{item_in, place_of}
use Rattle.source.specs.declared.body.Body.{Body}
use Rattle.source_text.specs.Lists.{item_text, ending_text, listing}

pub wide_enough : {A B : Type 0} (ls : List A) (hs : List B) → length ls ≡ 64 → length hs ≡ 256 → wide ls hs ≡ true
wide_enough ls hs p q = and_from (leb 64 (length ls)) (leb 256 (length hs)) (le-leb 64 (length ls) (omega arith)) (le-leb 256 (length hs) (omega arith))

-- what a look wrote is the item
shown : (x : Item) (p : ℕ) (h : Head) (b : Body) (ls : List ℤ) (hs : List ℕ) → h ≡ head_of x p → b.literals ≡ onto (literals_of x) ls → b.numbers ≡ onto (hints_of x) hs → item_text (place_of h) (item_in h b) ≡ item_text p x
shown (addition n l k) p h b ls hs e c d =
    ap (λ h. item_text (place_of h) (item_in h b)) e
    ∙ ap (λ y. item_text p (addition n y (take (length k) b.numbers))) (ap (take (length l)) c ∙ take_at l (drop (length l) ls) (length l) refl)
    ∙ ap (λ y. item_text p (addition n l y)) (ap (take (length k)) d ∙ take_at k (drop (length k) hs) (length k) refl)
shown (deletion ns) p h b ls hs e c d = ap (λ h. item_text (place_of h) (item_in h b)) e ∙ ap (λ y. item_text p (deletion y)) (ap (take (length ns)) d ∙ take_at ns (drop (length ns) hs) (length ns) refl)

-- one item more, of what is to be written in all
pub item_listed : (w : Bool) → w ≡ true → (xs : List Placed) (e : Ending) (h : Head) (b : Body) (ls : List ℤ) (hs : List ℕ) (s s' t : List ℕ) →
    Ok h ≡ looked w xs e → b.literals ≡ written w (first_literals xs) ls → b.numbers ≡ written w (first_hints xs) hs → s' ≡ s ++ item_text (place_of h) (item_in h b) → s ++ listing xs e ≡ t →
    s' ++ listing (behind_first xs) e ≡ t
item_listed false q xs e h b ls hs s s' t a c d f g = cc
item_listed true q [] e h b ls hs s s' t a c d f g = let p : Ok h ≡ Err (ended e) = a in cc
item_listed true q (x ∷ xs) e h b ls hs s s' t a c d f g =
    let p : Ok h ≡ Ok (head_of x.item x.place) = a in
    let k : h ≡ head_of x.item x.place = cc in
    let w : s' ≡ s ++ item_text x.place x.item = f ∙ ap (λ y. s ++ y) (shown x.item x.place h b ls hs k c d) in
    ap (λ y. y ++ listing xs e) w ∙ append_assoc s (item_text x.place x.item) (listing xs e) ∙ ap (λ y. s ++ y) (sym (append_assoc (item_text x.place x.item) _ (ending_text e.fault e.place))) ∙ g

-- no item is left
pub ending_listed : (w : Bool) → w ≡ true → (xs : List Placed) (e : Ending) (r : Refusal) → Err r ≡ looked w xs e → (xs ≡ []) × (r ≡ refusal_at e.fault e.place)
ending_listed false q xs e r a = cc
ending_listed true q [] e r a = let p : Err r ≡ Err (ended e) = a in (refl, (cc))
ending_listed true q (x ∷ xs) e r a = let p : Err r ≡ Ok (head_of x.item x.place) = a in cc

pub all_listed : (xs : List Placed) (e : Ending) (r : Refusal) (s s' t : List ℕ) → xs ≡ [] → r ≡ refusal_at e.fault e.place → s' ≡ s ++ ending_text r.fault r.place → s ++ listing xs e ≡ t → s' ≡ t
all_listed xs e r s s' t p q d f = d ∙ ap (λ (x : Refusal). s ++ ending_text x.fault x.place) q ∙ sym (ap (λ ys. s ++ listing ys e) p) ∙ f
