-- From what the stages' calls promise to what a call answers by a stage.
use Rattle.std.proofs.Common.{ℕ, ◌≡◌, ◌⊎◌, List, [], ◌∷◌, ◌++◌, map, Result, Ok, Err, refl, sym, ap, subst, inl, inr, ◌∙◌}
use Rattle.std.specs.List.{flat_map}
use Rattle.std.specs.Result.{IsErrAnd}
use Rattle.feast_base.specs.Stages.{Stage, and_then}
use Rattle.feast_base.specs.declared.place.Refusal.{Refusal}
use Rattle.ulam_lex.specs.declared.token.LexFault.{LexFault}
use Rattle.ulam_lex.specs.declared.token.LexFault.TheVariants as x
use Rattle.ulam_lex.specs.Texts as lex
use Rattle.ulam_tree.specs.Raw.{Item}
use Rattle.ulam_tree.specs.Resolved as r
use Rattle.ulam_tree.specs.RawViews.{file_of}
use Rattle.ulam_tree.specs.declared.raw.File.{File}
use Rattle.ulam_tree.specs.Found.{fault_of}
use Rattle.ulam_names.specs.Classes as names
use Rattle.ulam_names.specs.ClassRelation.{IsResolved}
use Rattle.ulam_names.proofs.ClassFits.{program_fits}
use Rattle.ulam_names.proofs.ClassMeans.{program_means}
use Rattle.ulam_tree.proofs.Means.{means_at}
use Rattle.ulam_names.specs.Shown.{Fails as NameFails}
use Rattle.ulam_names.specs.declared.fault.NameFault.{NameFault}
use Rattle.ulam_names.specs.declared.fault.NameFault.TheVariants as n
use Rattle.type_rules.specs.Programs as types
use Rattle.ulam_types.specs.Shown.{Fails as TypeFails}
use Rattle.ulam_types.specs.declared.fault.TypeFault.{TypeFault}
use Rattle.ulam_types.specs.declared.fault.TypeFault.TheVariants as t
use Rattle.element_set.specs.declared.fault.BuildFault.{BuildFault}
use Rattle.element_set.specs.declared.fault.BuildFault.TheVariants.{Refused, NoMemory}
use Rattle.code_gen.specs.Compiling.{Compiles}
use Rattle.code_gen.specs.declared.fault.GenFault.{GenFault}
use Rattle.code_gen.specs.declared.fault.GenFault.TheVariants as g
use Rattle.element_set.specs.Faults.{refusal, lex_fault, name_fault, type_fault, gen_fault}
use Rattle.element_set.specs.Stages.{lex_stage, name_stage, named_set, type_stage, limit_stage}
use Rattle.element_set.specs.Value.{SetValue, program_of}
use Rattle.element_set.specs.Told.{Tells}

-- a stage that passed, and then the rest
pub tells_then : {X A B : Type 0} (value : X → B) (S : Stage A Refusal) (T : A → Stage B Refusal) (a : A) (r : Result X BuildFault) → S (Ok a) → Tells value (T a) r → Tells value (and_then S T) r
tells_then value S T a (Ok x) h t = inr (record { value = a; passed = h; rest = t })
tells_then value S T a (Err (Refused s)) h t = (inr (record { value = a; passed = h; rest = t.0 }), t.1)
tells_then value S T a (Err NoMemory) h t = tt

-- a stage that did not pass
pub tells_halt : (X Y : Type 0) {A B : Type 0} (value : X → A) (other : Y → B) (S : Stage A Refusal) (T : A → Stage B Refusal) (e : BuildFault) → Tells {X = X} value S (Err e) → Tells {X = Y} other (and_then S T) (Err e)
tells_halt X Y value other S T (Refused s) t = (inl t.0, t.1)
tells_halt X Y value other S T NoMemory t = tt

-- where each outcome of one stage is one of another
pub tells_via : (X : Type 0) {B : Type 0} (value : X → B) (S T : Stage B Refusal) (e : BuildFault) → ((o : Result B Refusal) → S o → T o) → Tells {X = X} value S (Err e) → Tells {X = X} value T (Err e)
tells_via X value S T (Refused s) f t = (f (Err s) t.0, t.1)
tells_via X value S T NoMemory f t = tt

-- the exit of a `?`
pub tells_exit : {X B : Type 0} (value : X → B) (S : Stage B Refusal) (e : BuildFault) (r : Result X BuildFault) → IsErrAnd r (λ d. d ≡ e) → Tells {X = X} value S (Err e) → Tells value S r
tells_exit value S e (Ok x) failed t = absurd failed
tells_exit {X = X} value S e (Err d) failed t = subst (λ f. Tells {X = X} value S (Err f)) (sym failed) t

pub lex_told : (X : Type 0) {B : Type 0} (value : X → B) (file : ℕ) (bytes : List ℕ) (T : _ → Stage B Refusal) (f : LexFault) → (f ≡ x.NoMemory) ⊎ lex.IsFaultOf file bytes f → Tells {X = X} value (and_then (lex_stage file bytes) T) (Err (lex_fault f))
lex_told X value file bytes T (x.BadByte p) (inl e) = absurd cc
lex_told X value file bytes T (x.BadByte p) (inr h) = (inl (x.BadByte p, h, refl), record { is_code = refl })
lex_told X value file bytes T (x.OpenComment p) (inl e) = absurd cc
lex_told X value file bytes T (x.OpenComment p) (inr h) = (inl (x.OpenComment p, h, refl), record { is_code = refl })
lex_told X value file bytes T (x.NumberTooLarge p) (inl e) = absurd cc
lex_told X value file bytes T (x.NumberTooLarge p) (inr h) = (inl (x.NumberTooLarge p, h, refl), record { is_code = refl })
lex_told X value file bytes T (x.TooManyTokens p) (inl e) = absurd cc
lex_told X value file bytes T (x.TooManyTokens p) (inr h) = (inl (x.TooManyTokens p, h, refl), record { is_code = refl })
lex_told X value file bytes T x.NoMemory h = tt

pub name_told : (X : Type 0) {B : Type 0} (value : X → B) (xs : List Item) (T : List r.Class → Stage B Refusal) (f : NameFault) → NameFails f (names.program xs) → Tells {X = X} value (and_then (name_stage xs) T) (Err (name_fault f))
name_told X value xs T (n.DuplicateName p) h = (inl (_, ap fault_of h, refl), record { is_code = refl })
name_told X value xs T (n.UnknownName p) h = (inl (_, ap fault_of h, refl), record { is_code = refl })
name_told X value xs T (n.CyclicQuark p) h = (inl (_, ap fault_of h, refl), record { is_code = refl })
name_told X value xs T (n.NoBehave p) h = (inl (_, ap fault_of h, refl), record { is_code = refl })
name_told X value xs T (n.BadConstant p) h = (inl (_, ap fault_of h, refl), record { is_code = refl })
name_told X value xs T (n.TooMany p) h = (inl (_, ap fault_of h, refl), record { is_code = refl })
name_told X value xs T (n.BadWidth p) h = (inl (_, ap fault_of h, refl), record { is_code = refl })
name_told X value xs T n.NoMemory h = tt

pub type_told : (X : Type 0) {B : Type 0} (value : X → B) (cs : List r.Class) (T : _ → Stage B Refusal) (f : TypeFault) → TypeFails f (types.program cs) → Tells {X = X} value (and_then (type_stage cs) T) (Err (type_fault f))
type_told X value cs T (t.WrongType p) h = (inl (_, ap fault_of h, refl), record { is_code = refl })
type_told X value cs T (t.MixedSigns p) h = (inl (_, ap fault_of h, refl), record { is_code = refl })
type_told X value cs T (t.NotAssignable p) h = (inl (_, ap fault_of h, refl), record { is_code = refl })
type_told X value cs T (t.WrongCount p) h = (inl (_, ap fault_of h, refl), record { is_code = refl })
type_told X value cs T (t.BadAs p) h = (inl (_, ap fault_of h, refl), record { is_code = refl })
type_told X value cs T (t.BreakOutside p) h = (inl (_, ap fault_of h, refl), record { is_code = refl })
type_told X value cs T (t.MissingReturn p) h = (inl (_, ap fault_of h, refl), record { is_code = refl })
type_told X value cs T t.NoMemory h = tt

pub gen_told : (X : Type 0) (value : X → SetValue) (s : SetValue) (f : GenFault) → Compiles (program_of s) (Err f) → Tells {X = X} value (limit_stage s) (Err (gen_fault f))
gen_told X value s (g.CodeTooLong p) h = ((h.0, h.1, ap (refusal 60) h.2), record { is_code = refl })
gen_told X value s g.NoMemory h = tt

-- the items of files, one file after another
pub joined : (files : List File) → flat_map file_of files ≡ flat_map (λ (f : List Item). f) (map file_of files)
joined [] = refl
joined (f ∷ fs) = ap (λ xs. file_of f ++ xs) (joined fs)

-- items of which names finds the same

abbrev SameProgram : List Item → List Item → Type 0
SameProgram xs ys = names.program xs ≡ names.program ys

named_like : (xs ys : List Item) → SameProgram xs ys → (o : Result (List r.Class) Refusal) → name_stage xs o → name_stage ys o
named_like xs ys e (Ok cs) h = means_at (IsResolved ys) (names.program ys) cs (program_means ys) (sym e ∙ program_fits xs cs h)
named_like xs ys e (Err s) h = (h.0, sym (ap fault_of e) ∙ h.1, h.2)

named_set_like : (xs ys : List Item) → SameProgram xs ys → (o : Result SetValue Refusal) → named_set xs o → named_set ys o
named_set_like xs ys e (Ok u) (inl h) = absurd h
named_set_like xs ys e (Ok u) (inr h) = inr (record { value = h.value; passed = named_like xs ys e (Ok h.value) h.passed; rest = h.rest })
named_set_like xs ys e (Err s) (inl h) = inl (named_like xs ys e (Err s) h)
named_set_like xs ys e (Err s) (inr h) = inr (record { value = h.value; passed = named_like xs ys e (Ok h.value) h.passed; rest = h.rest })

pub tells_like : {X : Type 0} (value : X → SetValue) (xs ys : List Item) → SameProgram xs ys → (o : Result X BuildFault) → Tells value (named_set xs) o → Tells value (named_set ys) o
tells_like value xs ys e (Ok x) t = named_set_like xs ys e (Ok (value x)) t
tells_like value xs ys e (Err (Refused s)) t = (named_set_like xs ys e (Err s) t.0, t.1)
tells_like value xs ys e (Err NoMemory) t = tt
