-- Parts of a text that were put one after another.
use Rattle.std.proofs.Common.{ℕ, ◌≡◌, ◌+◌, ◌-◌, List, [], ◌∷◌, ◌++◌, length, refl, sym, ap, subst, arith, ◌∙◌, Option, Some, None, append_assoc, length-append, Result, Ok, Err}
use Rattle.std.specs.Result.{IsErr}
use Rattle.std.proofs.lemmas.List.{append-nil}
use Rattle.feast_base.specs.Outside.{Grows, SinkState}
use Rattle.feast_base.specs.Loading.{IsCut, IsPut}
use Rattle.feast_base.specs.declared.sink.SinkFailed.{SinkFailed}
use Rattle.report_text.specs.Writing.{IsTurned, PutsAll, Streams, StreamsFirst, heading}

grows_none : (w : Option (List ℕ)) → Grows w w []
grows_none None = refl
grows_none (Some w) = ap (λ z. Some z) (sym (append-nil w))

pub grows_then : (a b c : Option (List ℕ)) (x y : List ℕ) → Grows a b x → Grows b c y → Grows a c (x ++ y)
grows_then None b c x y p q = subst (λ o. Grows o c y) p q
grows_then (Some w) b c x y p q = subst (λ o. Grows o c y) p q ∙ ap (λ z. Some z) (append_assoc w x y)

pub put_none : (t : SinkState) → IsPut t t []
put_none t = record { grows = grows_none t.written; same = refl; later = λ m h. subst t.may_fail (omega arith) h }

pub put_nothing : (t : SinkState) (text : List ℕ) → length text ≡ 0 → IsPut t t text
put_nothing t [] none = put_none t
put_nothing t (x ∷ xs) none = absurd (omega (arith, none))

pub put_then : (a b c : SinkState) (x y : List ℕ) → IsPut a b x → IsPut b c y → IsPut a c (x ++ y)
put_then a b c x y p q = record {
  grows = grows_then a.written b.written c.written x y p.grows q.grows;
  same = q.same ∙ p.same;
  later = λ m h. subst a.may_fail (let e = length-append x y in omega (arith, e)) (p.later (length y + m) (q.later m h));
}

pub cut_then : (a b c : SinkState) (x t text : List ℕ) → text ≡ x ++ t → IsPut a b x → IsCut b c t → IsCut a c text
cut_then a b c x t text is p q = record {
  front = x ++ q.front;
  rest = q.rest;
  split = is ∙ (ap (λ r. x ++ r) q.split ∙ sym (append_assoc x q.front q.rest));
  grows = grows_then a.written b.written c.written x q.front p.grows q.grows;
  more = let e = p.same in let f = q.more in omega (arith, e, f);
  cause = λ m le.
      let e : length text ≡ length x + length t = ap length is ∙ length-append x t in
      let h : b.may_fail (m - length x) = q.cause (m - length x) (omega (arith, e, le)) in
      let k : length x + (m - length x) ≡ m = omega (arith, e, le) in
      subst a.may_fail k (p.later (m - length x) h);
}

cut_more : (a b : SinkState) (t more : List ℕ) → IsCut a b t → IsCut a b (t ++ more)
cut_more a b t more q = record {
  front = q.front;
  rest = q.rest ++ more;
  split = ap (λ r. r ++ more) q.split ∙ append_assoc q.front q.rest more;
  grows = q.grows;
  more = q.more;
  cause = λ m le. q.cause m (let e = length-append t more in omega (arith, e, le));
}

-- nothing came behind a page
turned_none : (s : SinkState) (page : List ℕ) → IsTurned s s page page []
turned_none s page = record { full = []; split = append-nil page; put = put_none s }

-- bytes for which the page has room
pub turned_room : (s : SinkState) (page more : List ℕ) → IsTurned s s page (page ++ more) more
turned_room s page more = record { full = []; split = refl; put = put_none s }

-- the page is full with a first part of a text, and is put
pub turned_full : (a b : SinkState) (page front : List ℕ) → IsPut a b (page ++ front) → IsTurned a b page [] front
turned_full a b page front put = record { full = page ++ front; split = sym (append-nil (page ++ front)); put = put }

-- one text came behind a page, and then another
turned_then : (a b c : SinkState) (p q r t u : List ℕ) → IsTurned a b p q t → IsTurned b c q r u → IsTurned a c p r (t ++ u)
turned_then a b c p q r t u h k = record {
  full = h.full ++ k.full;
  split = sym (append_assoc p t u) ∙ ap (λ z. z ++ u) h.split ∙ append_assoc h.full q u ∙ ap (λ z. h.full ++ z) k.split ∙ sym (append_assoc h.full k.full r);
  put = put_then a b c h.full k.full h.put k.put;
}

-- one text came behind a page, and the sink failed in the next
turned_cut : (a b c : SinkState) (p q t u : List ℕ) → IsTurned a b p q t → IsCut b c (q ++ u) → IsCut a c (p ++ (t ++ u))
turned_cut a b c p q t u h cut =
    cut_then a b c h.full (q ++ u) (p ++ (t ++ u))
    (sym (append_assoc p t u) ∙ ap (λ z. z ++ u) h.split ∙ append_assoc h.full q u) h.put cut

-- a first part of a text came behind a page, and what is left of the text
pub record IsUnderway (old new : SinkState) (page page' left text : List ℕ) : Type 0 where
  pub front : List ℕ
  pub split : front ++ left ≡ text
  pub turned : IsTurned old new page page' front

pub underway_none : (s : SinkState) (page text : List ℕ) → IsUnderway s s page page text text
underway_none s page text = record { front = []; split = refl; turned = turned_none s page }

pub underway_more : (a b c : SinkState) (p q r left piece rest text : List ℕ) → IsUnderway a b p q left text → left ≡ piece ++ rest → IsTurned b c q r piece → IsUnderway a c p r rest text
underway_more a b c p q r left piece rest text u is h = record {
  front = u.front ++ piece;
  split = append_assoc u.front piece rest ∙ ap (λ z. u.front ++ z) (sym is) ∙ u.split;
  turned = turned_then a b c p q r u.front piece u.turned h;
}

pub underway_done : (a b : SinkState) (p q left text : List ℕ) → IsUnderway a b p q left text → left ≡ [] → IsTurned a b p q text
underway_done a b p q left text u none = subst (λ z. IsTurned a b p q z) (sym (append-nil u.front) ∙ ap (λ z. u.front ++ z) (sym none) ∙ u.split) u.turned

-- the last part comes, as the answer says
pub underway_last : {T : Type 0} (a b c : SinkState) (p q r left text : List ℕ) (res : Result T SinkFailed) → IsUnderway a b p q left text → Streams (heading b q) (heading c r) left res → Streams (heading a p) (heading c r) text res
underway_last a b c p q r left text (Ok x) u h = subst (λ z. IsTurned a c p r z) u.split (turned_then a b c p q r u.front left u.turned h)
underway_last a b c p q r left text (Err e) u h = subst (λ z. IsCut a c (p ++ z)) u.split (turned_cut a b c p q u.front left u.turned h)

-- the sink failed in the next part
pub underway_cut : {T : Type 0} (a b c : SinkState) (p q r left piece rest text : List ℕ) (res : Result T SinkFailed) → IsErr res → IsUnderway a b p q left text → left ≡ piece ++ rest → IsCut b c (q ++ piece) → Streams (heading a p) (heading c r) text res
underway_cut a b c p q r left piece rest text (Ok x) failed u is cut = absurd (cc failed)
underway_cut a b c p q r left piece rest text (Err e) failed u is cut =
    let more : IsCut b c (q ++ left) = subst (λ z. IsCut b c z) (append_assoc q piece rest ∙ ap (λ z. q ++ z) (sym is)) (cut_more b c (q ++ piece) rest cut) in
    subst (λ z. IsCut a c (p ++ z)) u.split (turned_cut a b c p q u.front left u.turned more)

-- what is on the page is put
pub puts_last : {T : Type 0} (a b c : SinkState) (page text : List ℕ) (res : Result T SinkFailed) → IsTurned a b [] page text → PutsAll b c page res → PutsAll a c text res
puts_last a b c page text (Ok x) h put = subst (λ z. IsPut a c z) (sym h.split) (put_then a b c h.full page h.put put)
puts_last a b c page text (Err e) h cut = cut_then a b c h.full page text h.split h.put cut

-- the sink failed before the last page
pub puts_cut : {T : Type 0} (a b : SinkState) (r text : List ℕ) (res : Result T SinkFailed) → IsErr res → Streams (heading a []) (heading b r) text res → PutsAll a b text res
puts_cut a b r text (Ok x) failed cut = absurd (cc failed)
puts_cut a b r text (Err e) failed cut = cut

-- the sink failed, and has a first part of the text
pub puts_failed : {T : Type 0} (a b : SinkState) (text : List ℕ) (res : Result T SinkFailed) → IsErr res → IsCut a b text → PutsAll a b text res
puts_failed a b text (Ok x) failed cut = absurd (cc failed)
puts_failed a b text (Err e) failed cut = cut

-- nothing came, and all is left
pub first_none : (s : SinkState) (page text : List ℕ) → (full : List ℕ) × (text ≡ full ++ text) × IsTurned s s page page full
first_none s page text = ([], refl, turned_none s page)

-- the first of two parts came
pub first_part : {T : Type 0} (a b : SinkState) (p r part left text : List ℕ) (res : Result T SinkFailed) → text ≡ part ++ left → Streams (heading a p) (heading b r) part res → StreamsFirst (heading a p) (heading b r) text left res
first_part a b p r part left text (Ok x) is h = (part, is, h)
first_part a b p r part left text (Err e) is h = subst (λ z. IsCut a b z) (append_assoc p part left ∙ ap (λ z. p ++ z) (sym is)) (cut_more a b (p ++ part) left h)

-- a first part of what is left came, as the answer says
pub underway_first : (a b c : SinkState) (p q r left more text : List ℕ) → IsUnderway a b p q left text → (full : List ℕ) × (left ≡ full ++ more) × IsTurned b c q r full → IsUnderway a c p r more text
underway_first a b c p q r left more text u h = underway_more a b c p q r left h.0 more text u h.1 h.2
