-- What is left behind a record is an end of the bytes. Assumes nothing.
use Rattle.std.proofs.Common.{◌≡◌, ℕ, zero, suc, ◌+◌, ◌-◌, ◌*◌, Bool, leb, List, [], ◌∷◌, length, drop, eqb, nat_abs, sym, refl, ap, ◌∙◌, subst, arith, length-drop}
use Rattle.std.proofs.lemmas.Bool.{cond_both}
use Rattle.std.proofs.lemmas.List.{drop-drop}
use Rattle.record_source.specs.declared.flaw.Flaw.{Flaw}
use Rattle.record_source.specs.declared.flaw.Flaw.TheVariants.{Wrong, Count}
use Rattle.record_source.specs.Fields.{Got, got, flawed, then, kept, field_from, limit, signed, fair, number_field, literal_field, count_field, in_row}
use Rattle.record_source.specs.Records.{Entry, addition_fields, deletion_fields, last_fields, la, ld, le, record_fields, first_record}

abbrev Ends : {A : Type 0} → List ℕ → Got A → Type 0
Ends bs (got x r) = (n : ℕ) × (r ≡ drop n bs)
Ends bs (flawed w) = Unit {0}

further : {A : Type 0} (bs r : List ℕ) (g : Got A) (n : ℕ) → r ≡ drop n bs → Ends r g → Ends bs g
further bs r (got x s) n e h = (n + h.0, h.1 ∙ ap (drop h.0) e ∙ drop-drop h.0 n bs)
further bs r (flawed w) n e h = tt

then_ends : {A B : Type 0} (bs : List ℕ) (g : Got A) (f : A → List ℕ → Got B) → Ends bs g → ((x : A) (r : List ℕ) → Ends r (f x r)) → Ends bs (then g f)
then_ends bs (got x r) f h k = further bs r (f x r) h.0 h.1 (k x r)
then_ends bs (flawed w) f h k = tt

kept_ends : {A : Type 0} (test : A → Bool) (w : Flaw) (x : A) (r : List ℕ) → Ends r (kept test w x r)
kept_ends test w x r = cond_both (test x) (got x r) (flawed w) (Ends r) (λ _. (0, refl)) (λ _. tt)

from_ends : (k n : ℕ) (bs : List ℕ) → Ends bs (field_from k n bs)
from_ends zero n bs = (0, refl)
from_ends (suc k) n [] = tt
from_ends (suc k) n (b ∷ bs) = further (b ∷ bs) bs (field_from k (n * 256 + b) bs) 1 refl (from_ends k (n * 256 + b) bs)

number_ends : (bs : List ℕ) → Ends bs (number_field bs)
number_ends bs = then_ends bs _ _ (from_ends 4 0 bs) (kept_ends fair Wrong)

literal_ends : (bs : List ℕ) → Ends bs (literal_field bs)
literal_ends bs = then_ends bs _ _ (from_ends 4 0 bs) (λ n r. kept_ends (λ z. fair (nat_abs z)) Wrong (signed n) r)

count_ends : (k m : ℕ) (bs : List ℕ) → Ends bs (count_field k m bs)
count_ends k m bs = then_ends bs _ _ (from_ends k 0 bs) (kept_ends (λ n. leb n m) Count)

row_ends : {A : Type 0} (one : List ℕ → Got A) → ((bs : List ℕ) → Ends bs (one bs)) → (k : ℕ) (bs : List ℕ) → Ends bs (in_row one k bs)
row_ends one h zero bs = (0, refl)
row_ends one h (suc k) bs = then_ends bs _ _ (h bs) (λ x r. then_ends r _ _ (row_ends one h k r) (λ xs s. (0, refl)))

addition_ends : (bs : List ℕ) → Ends bs (addition_fields bs)
addition_ends bs =
    then_ends bs _ _ (number_ends bs)
    (λ n r. then_ends r _ _ (count_ends 1 64 r)
    (λ l s. then_ends s _ _ (count_ends 2 256 s)
    (λ h t. then_ends t _ _ (row_ends literal_field literal_ends l t)
    (λ ls u. then_ends u _ _ (row_ends number_field number_ends h u) (λ hs v. (0, refl))))))

deletion_ends : (bs : List ℕ) → Ends bs (deletion_fields bs)
deletion_ends bs = then_ends bs _ _ (count_ends 2 256 bs) (λ k r. then_ends r _ _ (row_ends number_field number_ends k r) (λ ns s. (0, refl)))

last_ends : (bs : List ℕ) → Ends bs (last_fields bs)
last_ends bs = then_ends bs _ _ (then_ends bs _ _ (from_ends 4 0 bs) (kept_ends (λ n. leb n limit) Wrong)) (λ n r. (0, refl))

record_ends : (mark : ℕ) (bs : List ℕ) → Ends bs (record_fields mark bs)
record_ends mark bs =
    cond_both (eqb mark la) (addition_fields bs) _ (Ends bs) (λ _. addition_ends bs)
    (λ _. cond_both (eqb mark ld) (deletion_fields bs) _ (Ends bs) (λ _. deletion_ends bs)
    (λ _. cond_both (eqb mark le) (last_fields bs) (flawed Wrong) (Ends bs) (λ _. last_ends bs) (λ _. tt)))

at_length : (n : ℕ) (bs : List ℕ) → drop n bs ≡ drop (length bs - length (drop n bs)) bs
at_length zero bs = ap (λ m. drop m bs) (let e : 0 ≡ length bs - length bs = omega arith in e)
at_length (suc n) [] = refl
at_length (suc n) (b ∷ bs) = at_length n bs ∙ ap (λ m. drop m (b ∷ bs)) (let e : suc (length bs - length (drop n bs)) ≡ suc (length bs) - length (drop n bs) = omega (arith, length-drop n bs) in e)

-- so how many bytes are left says where they stand
pub left_where : (bs r : List ℕ) (x : Entry) → first_record bs ≡ got x r → r ≡ drop (length bs - length r) bs
left_where bs r x e =
    let h = subst (Ends bs) e (then_ends bs _ _ (from_ends 2 0 bs) record_ends) in
    subst (λ l. l ≡ drop (length bs - length l) bs) (sym h.1) (at_length h.0 bs)
