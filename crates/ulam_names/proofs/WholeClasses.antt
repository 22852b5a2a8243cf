-- Members and classes with their bodies, one after another.
use Rattle.std.proofs.Common.{◌≡◌, ℕ, ◌+◌, ◌<◌, sym, ap, ◌∙◌, List, [], ◌∷◌, ◌++◌, length, map, drop, get_or, Ok, Some, append_assoc}
use Rattle.std.proofs.lemmas.List.{map-append, at_drop_more}
use Rattle.ulam_tree.specs.ResolvedViews.{resolved_param}
use Rattle.ulam_tree.specs.declared.resolved.Param.{Param}
use Rattle.ulam_names.specs.declared.half.HalfParam.{HalfParam}
use Rattle.ulam_tree.specs.Resolved as r
use Rattle.ulam_tree.specs.Found.{with_front, ◌>>=◌}
use Rattle.ulam_names.specs.Faults.{Found}
use Rattle.ulam_names.specs.Scopes.{Head, Names, Context, Entry, inside_local}
use Rattle.ulam_names.specs.Walk.{body}
use Rattle.ulam_names.specs.ClassWalk.{body_in}
use Rattle.ulam_names.specs.Classes as w
use Rattle.ulam_names.specs.Shown.{param_of, entry_of, entries_of}
use Rattle.ulam_names.specs.declared.scope.Entry.{Entry as CodeEntry}
use Rattle.ulam_tree.proofs.Means.{front_on}

pub member_on : (known : w.Known) (heads : List Head) (k : ℕ) (d : Names) (front : List r.Member) (m : w.Half) (ms : List w.Half) (x : r.Member) →
    w.whole_member known heads k d m ≡ Ok x → with_front front (w.whole_members known heads k d (m ∷ ms)) ≡ with_front (front ++ (x ∷ [])) (w.whole_members known heads k d ms)
member_on known heads k d front m ms x h = rw h (front_on front x (w.whole_members known heads k d ms))

pub class_on : (known : w.Known) (heads : List Head) (k j : ℕ) (front : List r.Class) (c : w.HalfClass) (cs : List w.HalfClass) (x : r.Class) →
    w.whole_class known heads k c ≡ Ok x → j ≡ k + 1 → with_front front (w.whole_classes known heads k (c ∷ cs)) ≡ with_front (front ++ (x ∷ [])) (w.whole_classes known heads j cs)
class_on known heads k j front c cs x h e = rw h (front_on front x (w.whole_classes known heads (k + 1) cs)) ∙ ap (λ (i : ℕ). with_front (front ++ (x ∷ [])) (w.whole_classes known heads i cs)) (sym e)

-- the body of a function, with the entries of its parameters
pub body_as : (c : Context) (f : w.Pending) (es : List Entry) (n : ℕ) (x : Found r.Body) →
    es ≡ w.param_entries c.heads 0 f.params → n ≡ length f.params → body c (record { entries = es; from = 0 }) n f.body ≡ x → body_in c f ≡ x
body_as c f es n x e k h =
    ap (λ (zs : List Entry). body c (record { entries = zs; from = 0 }) (length f.params) f.body) (sym e)
    ∙ ap (λ (m : ℕ). body c (record { entries = es; from = 0 }) m f.body) (sym k)
    ∙ h

-- a function whose body is resolved in its context
pub function_as : (known : w.Known) (heads : List Head) (k : ℕ) (d : Names) (f : w.Pending) (c : Context) (x : Found r.Body) →
    c ≡ w.context_of known heads k d f → body_in c f ≡ x → w.whole_member known heads k d (w.half_function f) ≡ (x >>= λ (b : r.Body). Ok (r.function f.of f.word f.params b))
function_as known heads k d f c x e h = ap (λ (y : Found r.Body). y >>= λ (b : r.Body). Ok (r.function f.of f.word f.params b)) (sym (ap (λ (z : Context). body_in z f) e) ∙ h)

-- one more parameter, with a copy of its name
pub param_on : (whole more : List Param) (p : Param) (q : HalfParam) (rest : List r.Param) → more ≡ whole ++ (p ∷ []) → resolved_param p ≡ param_of q →
    map resolved_param whole ++ (param_of q ∷ rest) ≡ map resolved_param more ++ rest
param_on whole more p q rest e h =
    ap (λ (x : r.Param). map resolved_param whole ++ (x ∷ rest)) (sym h)
    ∙ sym (append_assoc (map resolved_param whole) (resolved_param p ∷ []) rest)
    ∙ ap (λ (zs : List r.Param). zs ++ rest) (sym (ap (map resolved_param) e ∙ map-append resolved_param whole (p ∷ [])))

-- one more entry of a parameter
pub entry_on : (heads : List Head) (ps : List HalfParam) (i k : ℕ) (p : HalfParam) (done more : List CodeEntry) (e : CodeEntry) → i < length ps → p ≡ get_or ps i p → more ≡ done ++ (e ∷ []) →
    entry_of e ≡ record { name = p.word.now.name; slot = Some k; inside = inside_local heads p.of.ty } →
    entries_of done ++ w.param_entries heads k (map param_of (drop i ps)) ≡ entries_of more ++ w.param_entries heads (k + 1) (map param_of (drop (i + 1) ps))
entry_on heads ps i k p done more e lt is m same =
    let rest : List Entry = w.param_entries heads (k + 1) (map param_of (drop (i + 1) ps)) in
    at_drop_more (λ (zs : List HalfParam). entries_of done ++ w.param_entries heads k (map param_of zs)) ps i p lt
    ∙ ap (λ (q : HalfParam). entries_of done ++ w.param_entries heads k (param_of q ∷ map param_of (drop (i + 1) ps))) (sym is)
    ∙ ap (λ (z : Entry). entries_of done ++ (z ∷ rest)) (sym same)
    ∙ sym (append_assoc (entries_of done) (entry_of e ∷ []) rest)
    ∙ ap (λ (zs : List Entry). zs ++ rest) (sym (ap entries_of m ∙ map-append entry_of done (e ∷ [])))
