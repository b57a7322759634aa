-- A list written number by number. Assumes nothing.
use Rattle.std.proofs.Common.{◌≡◌, ℕ, ◌+◌, ◌<◌, List, [], ◌∷◌, ◌++◌, length, get_or, take, Some, Option, Ok, sym, refl, ap, ◌∙◌, subst}
use Rattle.std.specs.declared.fmt.Formatter.{Formatter}
use Rattle.std.specs.Fmt.{HasWritten, DisplaysOnOk, ◌++?◌}
use Rattle.std.proofs.Output.{has_written_append, has_written_of_eq}
use Rattle.std.proofs.lemmas.List.{take_more, flat_map_more}
use Rattle.plain_text.specs.Texts.{spaced}

spaced_more : {A : Type 0} (text : A → List ℕ) (xs : List A) (i : ℕ) (x : A) → i < length xs → x ≡ get_or xs i x → spaced text (take i xs) ++ (text x ++ 32 ∷ []) ≡ spaced text (take (i + 1) xs)
spaced_more text xs i x h e = flat_map_more (λ x. text x ++ 32 ∷ []) [] (take i xs) x ∙ ap (spaced text) (ap (λ y. take i xs ++ y ∷ []) e ∙ sym (take_more xs i x h))

-- a number more, and the space behind it
pub written_more : {W A : Type 0} (took : W → List ℕ → W → Type 0) (text : A → List ℕ) (f g h : Formatter W) (xs : List A) (i : ℕ) (x : A) (o : Option (List ℕ)) → i < length xs → x ≡ get_or xs i x → o ≡ Some (text x) →
    HasWritten took f (spaced text (take i xs)) g → DisplaysOnOk took g (Ok tt) (o ++? Some (32 ∷ [])) h → HasWritten took f (spaced text (take (i + 1) xs)) h
written_more took text f g h xs i x o l e s a b =
    let w = subst (λ o. DisplaysOnOk took g (Ok tt) (o ++? Some (32 ∷ [])) h) s b in
    has_written_of_eq took f _ _ h (spaced_more text xs i x l e) (has_written_append took f (spaced text (take i xs)) g (text x ++ 32 ∷ []) h a (w a.plain refl))
