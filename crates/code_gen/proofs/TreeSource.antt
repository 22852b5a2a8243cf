-- What typed trees give of a function is what its draft has.
use Rattle.std.proofs.Common.{◌≡◌, ℕ, ◌≤◌, List, [], ◌∷◌, ◌++◌, length, map, refl, sym, ap, ◌∙◌, arith, length-append}
use Rattle.std.proofs.lemmas.List.{length-map, map-append}
use Rattle.ulam_tree.specs.declared.resolved.Param.{Param}
use Rattle.ulam_tree.specs.declared.resolved.Ty.{Ty}
use Rattle.ulam_tree.specs.ResolvedViews.{resolved_param}
use Rattle.ulam_tree.specs.TypedViews.{typed_body}
use Rattle.ulam_tree.specs.Locals.{all_locals}
use Rattle.ulam_meaning.specs.Programs.{Program, Function, param_types, function_at, slot_types, type_number}
use Rattle.stack_code.specs.Machine.{FunctionValue}
use Rattle.stack_code.specs.Valid.{Kinds}
use Rattle.stack_code.specs.declared.instr.Answer.{Answer}
use Rattle.code_gen.specs.Pieces.{Key, Piece}
use Rattle.code_gen.specs.Drafts.{value_at}
use Rattle.code_gen.specs.Laws.{IsGood}
use Rattle.code_gen.specs.Scheme.{operand_of, answer_of, body_piece, draft_of}
use Rattle.code_gen.specs.Sized.{IsSized}
use Rattle.code_gen.specs.Clipped.{clip}
use Rattle.code_gen.specs.Seen.{function_of}
use Rattle.code_gen.specs.Views.{IsHead}
use Rattle.code_gen.specs.declared.classes.Function.{Function as CodeFunction}
use Rattle.code_gen.proofs.Clips.{body_whole}

params_long : (ps : List Param) → length (param_types (map resolved_param ps)) ≡ length ps
params_long [] = refl
params_long (p ∷ ps) = omega (arith, params_long ps)

module _ (g : Program) (k : Key) (f : CodeFunction) (same : function_of f ≡ function_at g k.class k.function) where
  params_are : length f.params.now ≡ length (map operand_of (function_at g k.class k.function).params)
  params_are = sym (params_long f.params.now) ∙ ap (λ (h : Function). length h.params) same ∙ sym (length-map (function_at g k.class k.function).params operand_of)

  pub few_params : IsSized g → length f.params.now ≤ 72
  few_params sized =
      let h = function_at g k.class k.function in
      omega (arith, params_are, length-map h.params operand_of, length-append h.params (all_locals h.body), sized.slots k)

  pub head_is : (a : Answer) (b : ℕ) → a ≡ answer_of f.result → b ≡ type_number g f.result → IsHead (record { params = length f.params.now; answer = a; blank = b }) (draft_of g k)
  head_is a b e h = record {
    params = params_are;
    answer = e ∙ ap (λ (x : Function). answer_of x.result) same;
    blank = h ∙ ap (λ (x : Function). type_number g x.result) same;
  }

  -- the piece of a body, by the function that it is of
  body_by : Function → Piece
  body_by h = clip (body_piece (record { program = g; base = k.base; slots = slot_types h; result = h.result }) h.body)

  pub body_is : (slots : List Ty) (q : Piece) → slots ≡ slot_types (function_of f) → q ≡ clip (body_piece (record { program = g; base = k.base; slots = slots; result = f.result }) (typed_body f.body.now)) → IsGood (draft_of g) k → q ≡ (draft_of g k).body
  unfolding body_by
  body_is slots q e h good =
      h
      ∙ ap (λ slots. clip (body_piece (record { program = g; base = k.base; slots = slots; result = f.result }) (typed_body f.body.now))) e
      ∙ ap body_by same
      ∙ body_whole (draft_of g) k good

  value_by : ℕ → List ℕ → ℕ → Kinds → Answer → FunctionValue
  value_by first name params slots answer = record { name = name; base = k.base; first = first; params = params; slots = slots; answer = answer }

  pub value_is : (first : ℕ) (name : List ℕ) (types : List Ty) (slots : Kinds) (a : Answer) → name ≡ f.name.now → types ≡ slot_types (function_of f) → slots ≡ map operand_of types → a ≡ answer_of f.result →
      record { name = name; base = k.base; first = first; params = length f.params.now; slots = slots; answer = a } ≡ value_at (draft_of g) first k
  unfolding value_by
  value_is first name types slots a e t s h =
      let x = function_at g k.class k.function in
      let named = e ∙ ap (λ (h : Function). h.name) same in
      let kinds = s ∙ ap (map operand_of) (t ∙ ap slot_types same) ∙ map-append operand_of x.params (all_locals x.body) in
      let gives = h ∙ ap (λ (h : Function). answer_of h.result) same in
      ap (λ n. value_by first n (length f.params.now) slots a) named
      ∙ ap (λ n. value_by first x.name n slots a) params_are
      ∙ ap (λ n. value_by first x.name (length (map operand_of x.params)) n a) kinds
      ∙ ap (λ n. value_by first x.name (length (map operand_of x.params)) (map operand_of x.params ++ map operand_of (all_locals x.body)) n) gives
