-- Names with the codes beside them.
use Rattle.std.proofs.Common.{ℕ, zero, suc, ◌≡◌, ◌+◌, ◌<◌, List, [], ◌∷◌, ◌++◌, length, take, get_or, refl, ap, sym, ◌∙◌, arith}
use Rattle.std.specs.List.{flat_map}
use Rattle.std.proofs.lemmas.List.{flat_map_more}
use Rattle.stack_code.specs.Machine.{CodeValue}
use Rattle.code_file.specs.Form.{CodesValue, ElementValue, codes_of, element, element_bytes, elements, names_of}

pub names_are : (ns : List (List ℕ)) (cs : List CodeValue) → length ns ≡ length cs → names_of (elements ns cs) ≡ ns
names_are [] cs h = refl
names_are (n ∷ ns) [] h = absurd (omega (arith, h))
names_are (n ∷ ns) (c ∷ cs) h = ap (λ xs. n ∷ xs) (names_are ns cs (omega (arith, h)))

pub codes_are : (ns : List (List ℕ)) (cs : List CodeValue) → length ns ≡ length cs → codes_of (elements ns cs) ≡ cs
codes_are [] [] h = refl
codes_are [] (c ∷ cs) h = absurd (omega (arith, h))
codes_are (n ∷ ns) [] h = absurd (omega (arith, h))
codes_are (n ∷ ns) (c ∷ cs) h = ap (λ xs. c ∷ xs) (codes_are ns cs (omega (arith, h)))

pub one_more : (ns : List (List ℕ)) (cs : List CodeValue) (n : List ℕ) (c : CodeValue) → length ns ≡ length cs → elements (ns ++ n ∷ []) (cs ++ c ∷ []) ≡ elements ns cs ++ element n c ∷ []
one_more [] [] n c h = refl
one_more [] (d ∷ cs) n c h = absurd (omega (arith, h))
one_more (m ∷ ns) [] n c h = absurd (omega (arith, h))
one_more (m ∷ ns) (d ∷ cs) n c h = ap (λ es. element m d ∷ es) (one_more ns cs n c (omega (arith, h)))

pub elements_long : (ns : List (List ℕ)) (cs : List CodeValue) → length ns ≡ length cs → length (elements ns cs) ≡ length ns
elements_long [] cs h = refl
elements_long (n ∷ ns) [] h = absurd (omega (arith, h))
elements_long (n ∷ ns) (c ∷ cs) h = ap suc (elements_long ns cs (omega (arith, h)))

-- the elements up to the next place
pub next_element : (ns : List (List ℕ)) (cs : List CodeValue) (k : ℕ) (n : List ℕ) (c : CodeValue) → length ns ≡ length cs → k < length ns → n ≡ get_or ns k n → c ≡ get_or cs k c → elements (take (k + 1) ns) (take (k + 1) cs) ≡ elements (take k ns) (take k cs) ++ element n c ∷ []
next_element [] cs k n c same lt a b = absurd (omega (arith, lt))
next_element (m ∷ ns) [] k n c same lt a b = absurd (omega (arith, same))
next_element (m ∷ ns) (d ∷ cs) zero n c same lt a b = (λ j. element (sym a j) (sym b j) ∷ [])
next_element (m ∷ ns) (d ∷ cs) (suc k) n c same lt a b =
    let e : suc k + 1 ≡ suc (k + 1) = omega arith in
    rw e (ap (λ es. element m d ∷ es) (next_element ns cs k n c (omega (arith, same)) (omega (arith, lt)) a b))

-- one more element is written
pub written_more : (old out new : List ℕ) (done all : CodesValue) (e : ElementValue) → out ≡ old ++ flat_map element_bytes done → new ≡ out ++ element_bytes e → all ≡ done ++ e ∷ [] → new ≡ old ++ flat_map element_bytes all
written_more old out new done all e a b h = b ∙ ap (λ x. x ++ element_bytes e) a ∙ flat_map_more element_bytes old done e ∙ ap (λ es. old ++ flat_map element_bytes es) (sym h)
