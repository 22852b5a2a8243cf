-- Where a virtual name leads.
use Rattle.std.proofs.Common.{◌≡◌, ◌⊎◌, inl, inr, ℕ, zero, suc, List, [], ◌∷◌, ◌++◌, length, map, Option, Some, None, option_map, option_and_then, refl, sym, ap, ◌∙◌}
use Rattle.std.specs.Prelude.{slice_get, reverse}
use Rattle.std.specs.Option.{option_or, option_map_or, option_to_list}
use Rattle.std.proofs.lemmas.Bool.{false≢true}
use Rattle.ulam_tree.specs.declared.resolved.Ty.{Ty}
use Rattle.ulam_tree.specs.declared.resolved.Ty.TheVariants as y
use Rattle.ulam_tree.specs.declared.resolved.Step.{Step}
use Rattle.ulam_tree.specs.declared.resolved.Step.TheVariants.{Member as in_data, Function as in_function}
use Rattle.ulam_tree.specs.Raw.{Word}
use Rattle.ulam_tree.specs.Resolved as r
use Rattle.ulam_tree.specs.Typed as t
use Rattle.ulam_heirs.specs.Lines.{Heir, base_number, base_of, upward, classes_at, line}
use Rattle.ulam_heirs.specs.Flat.{is_virtual_name, flat_members}
use Rattle.ulam_names.specs.Scopes.{Text, Head, Context, Entry, number_of, names_of, field_in, function_in, in_class, member_of_own, in_own_class, first_step, first_name, slot_named, last_named, no_names}
use Rattle.ulam_names.specs.Walk.{one_word}
use Rattle.ulam_names.specs.Classes.{head_of}
use Rattle.ulam_names.specs.Relation.{IsPath}
use Rattle.ulam_names.specs.ClassRelation.{own_class}
use Rattle.type_rules.specs.Programs.{class_sig}
use Rattle.accepted_laws.specs.Accepted.{AcceptedTrees, heirs}
use Rattle.accepted_laws.specs.Calls.{IsVirtualIn, CallsNearest, function_words, context_at}
use Rattle.accepted_laws.proofs.Lists.{changed_place, first_none}
use Rattle.accepted_laws.proofs.Rows.{Row, row}
use Rattle.accepted_laws.proofs.Once.{at_most_once}
use Rattle.accepted_laws.proofs.Functions.{fields_named, functions_named, function_words_are, has_number}
use Rattle.accepted_laws.proofs.Near.{near_stands}

-- A name in a class

abbrev data_step : ℕ → ℕ × Ty → Step × Ty
data_step k x = (in_data k x.0, x.1)

abbrev function_step : ℕ → ℕ → Step × Ty
function_step k i = (in_function k i, y.Nothing)

abbrev numbered_by : List (Text × Ty) → Option ℕ → Option (ℕ × Ty)
numbered_by ps o = option_and_then (λ (i : ℕ). option_map (λ (p : Text × Ty). (i, p.1)) (slice_get ps i)) o

class_leads : (k i : ℕ) (h : Head) (n : Text) → number_of n (names_of h.fields) ≡ None → number_of n h.functions ≡ Some i → in_class k h n ≡ Some (function_step k i)
class_leads k i h n none some =
    let no_data : field_in k h n ≡ None = ap (λ (o : Option ℕ). option_map (data_step k) (numbered_by h.fields o)) none in
    let own : function_in k h n ≡ Some (function_step k i) = ap (option_map (function_step k)) some in
    ap (λ (o : Option (Step × Ty)). option_or o (function_in k h n)) no_data ∙ own

-- A name in a body

or_some : {A : Type 0} (o rest : Option A) (a : A) → o ≡ Some a → option_or o rest ≡ Some a
or_some o rest a e = ap (λ p. option_or p rest) e

or_rest : {A : Type 0} (f : ℕ → A) (o : Option ℕ) (rest : Option A) → o ≡ None → option_or (option_map f o) rest ≡ rest
or_rest f o rest e = ap (λ p. option_or (option_map f p) rest) e

abbrev inside_of : List Entry → Text → Step × Ty → Step × Ty
inside_of es n x = (x.0, option_map_or (λ (e : Entry). e.inside) (last_named n es) x.1)

module _ (c : Context) (es : List Entry) (h : Head) (n : Text) (s : Step × Ty) where
  step_is : slice_get c.heads c.own ≡ Some h → in_class c.own h n ≡ Some s → slot_named n es ≡ None → first_step c es n ≡ Some s
  step_is at leads free =
      let own : member_of_own c n ≡ Some s = ap (option_and_then (λ (g : Head). in_class c.own g n)) at ∙ leads in
      let within : in_own_class c n ≡ Some s = or_some (member_of_own c n) _ s own in
      or_rest _ (slot_named n es) (in_own_class c n) free ∙ within

  first_is : (x : Step × Ty) → first_step c es n ≡ Some s → first_name c es n ≡ Some x → x.0 ≡ s.0
  first_is x is e =
      let q : Some (inside_of es n s) ≡ Some x = sym (ap (option_map (inside_of es n)) is) ∙ e in
      let same : inside_of es n s ≡ x = cc in
      ap (λ (z : Step × Ty). z.0) (sym same)

path_leads : (c : Context) (es : List Entry) (h : Head) (s : Step × Ty) (w : Word) (q : r.Path) → slice_get c.heads c.own ≡ Some h → in_class c.own h w.name ≡ Some s → slot_named w.name es ≡ None → IsPath c es (one_word w) q → q.steps ≡ s.0 ∷ []
path_leads c es h s w q at leads free p =
    let first = first_is c es h w.name s p.0 (step_is c es h w.name s at leads free) p.2 in
    let both : p.0.0 ∷ p.1 ≡ s.0 ∷ [] = λ i. first i ∷ p.3 i in
    ap (λ (z : r.Path). z.steps) p.4 ∙ both

-- A class of accepted trees

up_alone : (m : ℕ) (base : ℕ → Option ℕ) (k : ℕ) → base k ≡ None → (upward m base k ≡ []) ⊎ (upward m base k ≡ k ∷ [])
unfolding upward
up_alone zero base k e = inl refl
up_alone (suc m) base k e = inr (ap (λ o. k ∷ option_map_or (upward m base) o []) e)

-- only a class that there is has a line
line_none : (hs : List Heir) (k : ℕ) → slice_get hs k ≡ None → line hs k ≡ []
line_none hs k e = go (up_alone (length hs) (base_of hs) k (ap (option_and_then (base_number hs)) e))
  where
    go : (upward (length hs) (base_of hs) k ≡ []) ⊎ (upward (length hs) (base_of hs) k ≡ k ∷ []) → line hs k ≡ []
    go (inl up) = ap (λ ks. classes_at hs (reverse ks)) up
    go (inr up) = ap (λ ks. classes_at hs (reverse ks)) up ∙ ap (λ o. option_to_list o ++ []) e

row_calls : (x : AcceptedTrees) (k : ℕ) (name : List ℕ) → Row x k → IsVirtualIn x k name → CallsNearest x k name
row_calls x k name at virtual =
    let ms = flat_members (heirs x) k in
    let near = near_stands (line (heirs x) k) name (at_most_once x.resolved.known no_names ms (at.half.names, at.half.members) name at.declares) virtual in
    let has = has_number name ms near.declaration near.once near.callable in
    let named = fields_named x.resolved.known no_names ms (at.half.names, at.half.members) at.declares in
    let own = functions_named x.resolved.known no_names ms (at.half.names, at.half.members) at.declares in
    let none : number_of name (names_of at.half.names.fields) ≡ None = ap (number_of name) named ∙ first_none name _ has.no_data in
    let some : number_of name at.half.names.functions ≡ Some has.number = ap (number_of name) own ∙ has.place in
    let leads = class_leads k has.number (head_of at.half) name none some in
    let heads = changed_place head_of x.resolved.halves k ∙ ap (option_map head_of) at.half_is in
    let words =
    function_words_are x.resolved.known (own_class x.resolved.known (map head_of x.resolved.halves) at.number at.half.names) (map class_sig x.classes) at.index ms (at.half.names, at.half.members) no_names at.plain.members at.typed.members at.declares at.whole at.has in
    record {
      number = has.number;
      is = record {
        declaration = near.declaration;
        near = near.near;
        callable = near.callable;
        once = near.once;
        stands =
            ap (λ (o : Option t.Class). slice_get (option_map_or (λ (c : t.Class). function_words c.members) o []) has.number) at.typed_is
            ∙ ap (λ ws. slice_get ws has.number) words
            ∙ has.stands;
      };
      leads = λ spot w q same free p.
          path_leads (context_at x k spot) spot.locals (head_of at.half) (function_step k has.number) w q heads (ap (in_class k (head_of at.half)) same ∙ leads) (ap (λ n. slot_named n spot.locals) same ∙ free) p;
    }

pub calls_nearest : (x : AcceptedTrees) (k : ℕ) (name : List ℕ) → IsVirtualIn x k name → CallsNearest x k name
calls_nearest x k name virtual = go (slice_get (heirs x) k) refl
  where
    go : (o : Option Heir) → slice_get (heirs x) k ≡ o → CallsNearest x k name
    go None e = absurd (false≢true (ap (λ hs. is_virtual_name hs name) (sym (line_none (heirs x) k e)) ∙ virtual))
    go (Some h) e = row_calls x k name (row x k h e) virtual
