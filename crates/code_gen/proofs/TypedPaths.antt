-- What a path names, by the type that it has: scopes of types beside scenes of meaning.
use Rattle.std.proofs.Common.{◌≡◌, ℕ, zero, suc, ◌-◌, ◌≤◌, ◌⊎◌, inl, inr, ⊎_elim, List, [], ◌∷◌, length, Option, Some, None, refl, sym, ap, ◌∙◌, subst, arith, true, map}
use Rattle.std.specs.Prelude.{slice_get, slice_set, slice_index_or, nat_eq, nat_lt}
use Rattle.std.specs.Option.{option_map_or}
use Rattle.std.proofs.lemmas.Bool.{ltb-true}
use Rattle.ulam_tree.specs.declared.resolved.Ty.{Ty}
use Rattle.ulam_tree.specs.declared.resolved.Ty.TheVariants as y
use Rattle.ulam_tree.specs.declared.resolved.Step.{Step}
use Rattle.ulam_tree.specs.declared.resolved.Step.TheVariants.{Own, Local, Member, Function as AFunction, Constant, Built as ABuilt}
use Rattle.ulam_tree.specs.Typed as t
use Rattle.type_rules.specs.declared.scope.Want.TheVariants.{Value}
use Rattle.type_rules.specs.declared.scope.FieldSig.{FieldSig}
use Rattle.type_rules.specs.Scopes as s
use Rattle.type_rules.specs.Programs.{fields_of, functions_of, want_of, class_sig}
use Rattle.ulam_meaning.specs.Programs.{Field, Function, no_field, no_function, param_types, fields, functions, members_of, field_at, function_at}
use Rattle.ulam_meaning.specs.Paths.{Span, Spot, local, member, part, window, field_spot, bit_of, through, spot, function_of, Callee, called, built_in, callee, Scene, spot_type}
use Rattle.stack_code.specs.Valid.{type_fits}
use Rattle.stack_code.specs.declared.instr.Operand.{Operand}
use Rattle.stack_code.specs.declared.instr.Operand.TheVariants.{Number, Atom}
use Rattle.stack_code.proofs.Passes.{if_gives}
use Rattle.code_gen.specs.Scheme.{operand_of}
use Rattle.code_gen.specs.Kinded.{IsNumber, IsAtom, StoresTo, HasSlot, PathIn, HasPath, class_in, ReadsKind, ReadsAtKind, WritesKind, WritesAtKind}
use Rattle.code_gen.specs.Named.{IsWide, AllWide, IsNamedPath}
use Rattle.code_gen.proofs.TypeRows.{BitsWide, wide_bits, stores}

-- two types of a slot: the same, or both of atoms
abbrev pub AlikeTypes : Ty → Ty → Type 0
AlikeTypes a b = (a ≡ b) ⊎ (IsAtom a × IsAtom b)

abbrev pub Alike : List Ty → List Ty → Type 0
Alike [] [] = Unit {0}
Alike (a ∷ as_) (b ∷ bs) = AlikeTypes a b × Alike as_ bs
Alike as_ bs = ⊥

alike_same : (xs : List Ty) → Alike xs xs
alike_same [] = tt
alike_same (x ∷ xs) = (inl refl, alike_same xs)

pub alike_eq : (xs ys : List Ty) → xs ≡ ys → Alike xs ys
alike_eq xs ys e = subst (Alike xs) e (alike_same xs)

pub alike_get : (xs ys : List Ty) (i : ℕ) (a : Ty) → Alike xs ys → slice_get xs i ≡ Some a → (b : Ty) × (slice_get ys i ≡ Some b) × AlikeTypes a b
alike_get [] [] i a h e = cc
alike_get (x ∷ xs) (z ∷ ys) zero a h e = let q : x ≡ a = cc in (z, refl, subst (λ x. AlikeTypes x z) q h.0)
alike_get (x ∷ xs) (z ∷ ys) (suc i) a h e = alike_get xs ys i a h.1 e
alike_get [] (z ∷ ys) i a h e = absurd h
alike_get (x ∷ xs) [] i a h e = absurd h

-- a slot that is seen as an element
pub alike_set : (xs ys : List Ty) (i c : ℕ) → Alike xs ys → slice_get xs i ≡ Some y.Atom → Alike (slice_set xs i (y.Class c)) ys
alike_set [] [] i c h e = tt
alike_set (x ∷ xs) (z ∷ ys) zero c h e =
    let q : x ≡ y.Atom = cc in
    let w : IsAtom z = ⊎_elim (λ f. ap operand_of (sym f ∙ q)) (λ f. f.1) h.0 in
    (inr (refl, w), h.1)
alike_set (x ∷ xs) (z ∷ ys) (suc i) c h e = (h.0, alike_set xs ys i c h.1 e)
alike_set [] (z ∷ ys) i c h e = absurd h
alike_set (x ∷ xs) [] i c h e = absurd h

pub alike_kind : (a b : Ty) → AlikeTypes a b → operand_of b ≡ operand_of a
alike_kind a b h = ⊎_elim (λ e. ap operand_of (sym e)) (λ e. e.1 ∙ sym e.0) h

alike_number : (a b : Ty) → AlikeTypes a b → IsNumber a → b ≡ a
alike_number a b h n = ⊎_elim (λ e. sym e) (λ e. let d : Number ≡ Atom = sym n ∙ e.0 in cc) h

pub kind_get : (ys : List Ty) (i : ℕ) (b : Ty) → slice_get ys i ≡ Some b → slice_get (map operand_of ys) i ≡ Some (operand_of b)
kind_get [] i b e = cc
kind_get (z ∷ ys) zero b e = let q : z ≡ b = cc in ap (λ z. Some (operand_of z)) q
kind_get (z ∷ ys) (suc i) b e = kind_get ys i b e

pub wide_get : (ys : List Ty) (i : ℕ) (b : Ty) → AllWide ys → slice_get ys i ≡ Some b → IsWide b
wide_get [] i b h e = cc
wide_get (z ∷ ys) zero b h e = let q : z ≡ b = cc in subst IsWide q h.0
wide_get (z ∷ ys) (suc i) b h e = wide_get ys i b h.1 e

index_get : {A : Type 0} (xs : List A) (i : ℕ) (d b : A) → slice_get xs i ≡ Some b → slice_index_or xs i d ≡ b
index_get [] i d b e = cc
index_get (x ∷ xs) zero d b e = cc
index_get (x ∷ xs) (suc i) d b e = index_get xs i d b e

-- Classes as types and as meaning see them

field_get : (ms : List t.Member) (m : ℕ) (f : FieldSig) → slice_get (fields_of ms) m ≡ Some f → slice_get (fields ms) m ≡ Some (record { ty = f.ty; length = f.length })
field_get [] m f e = cc
field_get (t.field of w n ∷ ms) zero f e = let q : record { ty = of.ty; length = n } ≡ f = cc in ap (λ (f : FieldSig). Some (record { ty = f.ty; length = f.length })) q
field_get (t.field of w n ∷ ms) (suc m) f e = field_get ms m f e
field_get (t.function of w ps b ∷ ms) m f e = field_get ms m f e

fields_seen : (cs : List t.Class) (k m : ℕ) (f : FieldSig) → s.field_in m (slice_get (map class_sig cs) k) ≡ Some f → slice_get (fields (option_map_or (λ (k : t.Class). k.members) (slice_get cs k) [])) m ≡ Some (record { ty = f.ty; length = f.length })
fields_seen [] k m f e = cc
fields_seen (c ∷ cs) zero m f e = field_get c.members m f e
fields_seen (c ∷ cs) (suc k) m f e = fields_seen cs k m f e

wants_same : (ps : List t.Param) → map want_of ps ≡ map Value (param_types ps)
wants_same [] = refl
wants_same (p ∷ ps) = ap (λ l. Value p.of.ty ∷ l) (wants_same ps)

-- a function as types and as meaning see it
pub record SeenFunction (f : s.FunctionSig) (fn : Function) : Type 0 where
  pub result : f.result ≡ fn.result
  pub wants : f.wants ≡ map Value fn.params

function_get : (ms : List t.Member) (m : ℕ) (f : s.FunctionSig) → slice_get (functions_of ms) m ≡ Some f → (fn : Function) × (slice_get (functions ms) m ≡ Some fn) × SeenFunction f fn
function_get [] m f e = cc
function_get (t.field of w n ∷ ms) m f e = function_get ms m f e
function_get (t.function of w ps b ∷ ms) zero f e =
    let q : record { result = of.ty; wants = map want_of ps } ≡ f = cc in
    (record { name = w.name; params = param_types ps; result = of.ty; body = b }, refl, record { result = ap (λ (f : s.FunctionSig). f.result) (sym q); wants = ap (λ (f : s.FunctionSig). f.wants) (sym q) ∙ wants_same ps })
function_get (t.function of w ps b ∷ ms) (suc m) f e = function_get ms m f e

functions_seen : (cs : List t.Class) (k m : ℕ) (f : s.FunctionSig) → s.function_in m (slice_get (map class_sig cs) k) ≡ Some f → (fn : Function) × (slice_get (functions (option_map_or (λ (k : t.Class). k.members) (slice_get cs k) [])) m ≡ Some fn) × SeenFunction f fn
functions_seen [] k m f e = cc
functions_seen (c ∷ cs) zero m f e = function_get c.members m f e
functions_seen (c ∷ cs) (suc k) m f e = functions_seen cs k m f e

-- Scopes and scenes

-- a scope of types, in a function of class c, beside the scene of its meaning
pub record Sees (g : s.Scope) (z : Scene) (c : ℕ) : Type 0 where
  pub classes : g.classes ≡ map class_sig z.program.classes
  pub slots : Alike g.slots z.slots
  pub result : g.result ≡ z.result
  pub wide : AllWide z.slots

module _ (g : s.Scope) (z : Scene) (c : ℕ) (sees : Sees g z c) (fields_wide : (k m : ℕ) → IsWide (field_at z.program k m).ty) where
  field_same : (k m : ℕ) (f : FieldSig) → s.field_at g k m ≡ Some f → field_at z.program k m ≡ record { ty = f.ty; length = f.length }
  unfolding field_at
  field_same k m f e = index_get (fields (members_of z.program k)) m no_field (record { ty = f.ty; length = f.length }) (fields_seen z.program.classes k m f (ap (λ l. s.field_in m (slice_get l k)) (sym sees.classes) ∙ e))

  pub function_same : (k m : ℕ) (f : s.FunctionSig) → s.function_in m (slice_get g.classes k) ≡ Some f → SeenFunction f (function_at z.program k m)
  unfolding function_at
  function_same k m f e =
      let x = functions_seen z.program.classes k m f (ap (λ l. s.function_in m (slice_get l k)) (sym sees.classes) ∙ e) in
      subst (SeenFunction f) (sym (index_get (functions (members_of z.program k)) m no_function x.0 x.1)) x.2

  -- what a slot holds
  record Slot (i : ℕ) (ty : Ty) : Type 0 where
    pub own : Ty
    pub at : slice_get z.slots i ≡ Some own
    pub alike : AlikeTypes ty own
    pub wide : IsWide own

  slot_of : (i : ℕ) (ty : Ty) → s.slot_type g (slice_get g.slots i) ≡ Some ty → Slot i ty
  slot_of i ty e = by_slot (slice_get g.slots i) refl e
    where
      by_slot : (o : Option Ty) → slice_get g.slots i ≡ o → s.slot_type g o ≡ Some ty → Slot i ty
      by_slot None f e = cc
      by_slot (Some a) f e =
          let q : a ≡ ty = let d = if_gives (s.is_value g a) (Some a) ty e in let w : Some a ≡ Some ty = d.1 in cc in
          let x = alike_get g.slots z.slots i a sees.slots f in
          record { own = x.0; at = x.1; alike = subst (λ a. AlikeTypes a x.0) q x.2; wide = wide_get z.slots i x.0 sees.wide x.1 }

  slot_kind : (i : ℕ) (ty : Ty) → Slot i ty → HasSlot z i (operand_of ty)
  slot_kind i ty x = kind_get z.slots i x.own x.at ∙ ap Some (alike_kind ty x.own x.alike)

  alike_wide : (a b : Ty) → AlikeTypes a b → IsWide b → BitsWide a
  alike_wide a b h w = ⊎_elim (λ e. subst BitsWide (sym e) (wide_bits b w)) (λ e. atom_bits a e.0) h
    where
      atom_bits : (a : Ty) → IsAtom a → BitsWide a
      atom_bits (y.Num num) e = absurd (cc)
      atom_bits ty e = λ m f. cc

  -- Members

  last_more : (a b : Step) (r : List Step) → s.last_step (a ∷ b ∷ r) ≡ s.last_step (b ∷ r)
  last_more a b r =
      let e : length (a ∷ b ∷ r) - 1 ≡ suc (length r) = omega arith in
      let f : length (b ∷ r) - 1 ≡ length r = omega arith in
      ap (slice_get (a ∷ b ∷ r)) e ∙ ap (slice_get (b ∷ r)) (sym f)

  -- a number by itself
  record ANumber (at : Spot) (numbers : Span → Spot) (ty : Ty) : Type 0 where
    pub span : Span
    pub same : at ≡ numbers span
    pub is : ty ≡ y.Num span.num
    pub fits : type_fits span.num ≡ true

  number_spot : (numbers : Span → Spot) (x n : ℕ) (fty ty : Ty) → s.number_by n fty ≡ Some ty → IsWide fty → ANumber (field_spot numbers x n fty) numbers ty
  number_spot numbers x n (y.Num num) ty e w =
      let d = if_gives (nat_eq n 0) (Some (y.Num num)) ty e in
      record { span = record { first = x; num = num; length = n }; same = refl; is = (let q : Some (y.Num num) ≡ Some ty = d.1 in cc); fits = w }
  number_spot numbers x n fty ty e w = cc

  member_number : (numbers : Span → Spot) (x k m : ℕ) (ty : Ty) → s.number_field (s.field_at g k m) ≡ Some ty → ANumber (field_spot numbers x (field_at z.program k m).length (field_at z.program k m).ty) numbers ty
  member_number numbers x k m ty e = by_field (s.field_at g k m) refl e
    where
      by_field : (o : Option FieldSig) → s.field_at g k m ≡ o → s.number_field o ≡ Some ty → ANumber (field_spot numbers x (field_at z.program k m).length (field_at z.program k m).ty) numbers ty
      by_field None f e = cc
      by_field (Some h) f e =
          let q = field_same k m h f in
          number_spot numbers x (field_at z.program k m).length (field_at z.program k m).ty ty (ap (λ (f : Field). s.number_by f.length f.ty) q ∙ e) (fields_wide k m)

  through_number : (numbers : Span → Spot) (steps : List Step) (x : ℕ) (o : Option ℕ) (ty : Ty) → PathIn z.program o steps → s.value_by g (s.last_step steps) ≡ Some ty → ANumber (through z.program numbers x steps) numbers ty
  through_number numbers [] x o ty h e = cc
  through_number numbers (Member k m ∷ []) x o ty h e = member_number numbers (bit_of z.program x k m) k m ty e
  through_number numbers (Member k m ∷ a ∷ r) x o ty h e = through_number numbers (a ∷ r) (bit_of z.program x k m) (class_in (field_at z.program k m).ty) ty h.1 (ap (s.value_by g) (sym (last_more (Member k m) a r)) ∙ e)
  through_number numbers (AFunction k f ∷ []) x o ty h e = cc
  through_number numbers (AFunction k f ∷ a ∷ r) x o ty h e = absurd h.1
  through_number numbers (ABuilt b ∷ []) x o ty h e = cc
  through_number numbers (ABuilt b ∷ a ∷ r) x o ty h e = absurd h
  through_number numbers (Constant num v ∷ r) x o ty h e = absurd h
  through_number numbers (Own ∷ r) x o ty h e = absurd h
  through_number numbers (Local i ∷ r) x o ty h e = absurd h

  -- what `[ ]` may stand behind: the window, or an array
  record AnItem (at : Spot) (numbers : Span → Spot) (ty : Ty) : Type 0 where
    pub is : ((at ≡ window) × (ty ≡ y.Atom)) ⊎ ((p : Span) × (at ≡ numbers p) × (ty ≡ y.Num p.num) × (type_fits p.num ≡ true) × (1 ≤ p.length))

  item_spot : (numbers : Span → Spot) (x n : ℕ) (fty ty : Ty) → s.item_of n fty ≡ Some ty → IsWide fty → AnItem (field_spot numbers x n fty) numbers ty
  item_spot numbers x n (y.Num num) ty e w =
      let d = if_gives (nat_lt 0 n) (Some (y.Num num)) ty e in
      let some = ltb-true 0 n d.0 in
      record { is = inr (record { first = x; num = num; length = n }, refl, (let q : Some (y.Num num) ≡ Some ty = d.1 in cc), w, omega (arith, some)) }
  item_spot numbers x n y.Window ty e w = record { is = inl (refl, cc) }
  item_spot numbers x n fty ty e w = cc

  member_item : (numbers : Span → Spot) (x k m : ℕ) (ty : Ty) → s.item_field (s.field_at g k m) ≡ Some ty → AnItem (field_spot numbers x (field_at z.program k m).length (field_at z.program k m).ty) numbers ty
  member_item numbers x k m ty e = by_field (s.field_at g k m) refl e
    where
      by_field : (o : Option FieldSig) → s.field_at g k m ≡ o → s.item_field o ≡ Some ty → AnItem (field_spot numbers x (field_at z.program k m).length (field_at z.program k m).ty) numbers ty
      by_field None f e = cc
      by_field (Some h) f e =
          let q = field_same k m h f in
          item_spot numbers x (field_at z.program k m).length (field_at z.program k m).ty ty (ap (λ (f : Field). s.item_of f.length f.ty) q ∙ e) (fields_wide k m)

  through_item : (numbers : Span → Spot) (steps : List Step) (x : ℕ) (o : Option ℕ) (ty : Ty) → PathIn z.program o steps → s.item_by g (s.last_step steps) ≡ Some ty → AnItem (through z.program numbers x steps) numbers ty
  through_item numbers [] x o ty h e = cc
  through_item numbers (Member k m ∷ []) x o ty h e = member_item numbers (bit_of z.program x k m) k m ty e
  through_item numbers (Member k m ∷ a ∷ r) x o ty h e = through_item numbers (a ∷ r) (bit_of z.program x k m) (class_in (field_at z.program k m).ty) ty h.1 (ap (s.item_by g) (sym (last_more (Member k m) a r)) ∙ e)
  through_item numbers (AFunction k f ∷ []) x o ty h e = cc
  through_item numbers (AFunction k f ∷ a ∷ r) x o ty h e = absurd h.1
  through_item numbers (ABuilt b ∷ []) x o ty h e = cc
  through_item numbers (ABuilt b ∷ a ∷ r) x o ty h e = absurd h
  through_item numbers (Constant num v ∷ r) x o ty h e = absurd h
  through_item numbers (Own ∷ r) x o ty h e = absurd h
  through_item numbers (Local i ∷ r) x o ty h e = absurd h

  -- Paths

  -- what is read
  abbrev Reads : Spot → Ty → Type 0
  Reads at ty = ReadsKind z at (operand_of ty) × BitsWide ty

  number_bits : (p : Span) (ty : Ty) → ty ≡ y.Num p.num → type_fits p.num ≡ true → BitsWide ty
  number_bits p ty e f = subst BitsWide (sym e) (wide_bits (y.Num p.num) f)

  member_reads : (at : Spot) (ty : Ty) → ANumber at member ty → Reads at ty
  member_reads at ty x = (subst (λ at. ReadsKind z at (operand_of ty)) (sym x.same) (x.fits, ap operand_of x.is), number_bits x.span ty x.is x.fits)

  part_reads : (i : ℕ) (at : Spot) (ty : Ty) → HasSlot z i Atom → ANumber at (part i) ty → Reads at ty
  part_reads i at ty h x = (subst (λ at. ReadsKind z at (operand_of ty)) (sym x.same) (h, x.fits, ap operand_of x.is), number_bits x.span ty x.is x.fits)

  own_type : (ty : Ty) → s.if_value g (y.Class g.class) ≡ Some ty → y.Class g.class ≡ ty
  own_type ty e = let d = if_gives (s.is_value g (y.Class g.class)) (Some (y.Class g.class)) ty e in let w : Some (y.Class g.class) ≡ Some ty = d.1 in cc

  pub path_reads : (steps : List Step) (ty : Ty) → IsNamedPath z c steps → s.value_type g steps ≡ Some ty → ReadsKind z (spot z.program z.base steps) (operand_of ty) × BitsWide ty
  path_reads [] ty h e = cc
  path_reads (Own ∷ []) ty h e = let q = own_type ty e in (ap operand_of (sym q), subst BitsWide q (λ m f. cc))
  path_reads (Own ∷ a ∷ r) ty h e = member_reads (through z.program member z.base (a ∷ r)) ty (through_number member (a ∷ r) z.base (Some c) ty h (ap (s.value_by g) (sym (last_more Own a r)) ∙ e))
  path_reads (Local i ∷ []) ty h e = let x = slot_of i ty e in (slot_kind i ty x, alike_wide ty x.own x.alike x.wide)
  path_reads (Local i ∷ a ∷ r) ty h e = part_reads i (through z.program (part i) 0 (a ∷ r)) ty h.1 (through_number (part i) (a ∷ r) 0 (Some h.0.0) ty h.0.1 (ap (s.value_by g) (sym (last_more (Local i) a r)) ∙ e))
  path_reads (Constant num v ∷ []) ty h e = let q : y.Num num ≡ ty = cc in ((h.2, ap operand_of (sym q)), subst BitsWide q (wide_bits (y.Num num) h.1))
  path_reads (Constant num v ∷ a ∷ r) ty h e = absurd h.0
  path_reads (Member k m ∷ r) ty h e = member_reads (through z.program member z.base (Member k m ∷ r)) ty (through_number member (Member k m ∷ r) z.base (Some c) ty h e)
  path_reads (AFunction k f ∷ r) ty h e = member_reads (through z.program member z.base (AFunction k f ∷ r)) ty (through_number member (AFunction k f ∷ r) z.base (Some c) ty h e)
  path_reads (ABuilt b ∷ r) ty h e = member_reads (through z.program member z.base (ABuilt b ∷ r)) ty (through_number member (ABuilt b ∷ r) z.base (Some c) ty h e)

  -- what is written, without an index
  pub record Target (at : Spot) (ty : Ty) : Type 0 where
    pub reads : ReadsKind z at (operand_of ty)
    pub writes : (k : Operand) → k ≡ operand_of ty → WritesKind z at k
    pub wide : BitsWide ty
    pub same : IsNumber ty → spot_type z at ≡ ty

  member_target : (at : Spot) (ty : Ty) → ANumber at member ty → Target at ty
  member_target at ty x = subst (λ at. Target at ty) (sym x.same) (record { reads = (x.fits, ap operand_of x.is); writes = λ k e. (x.fits, e ∙ ap operand_of x.is); wide = number_bits x.span ty x.is x.fits; same = λ n. sym x.is })

  part_target : (i : ℕ) (at : Spot) (ty : Ty) → HasSlot z i Atom → ANumber at (part i) ty → Target at ty
  part_target i at ty h x = subst (λ at. Target at ty) (sym x.same) (record { reads = (h, x.fits, ap operand_of x.is); writes = λ k e. (h, x.fits, e ∙ ap operand_of x.is); wide = number_bits x.span ty x.is x.fits; same = λ n. sym x.is })

  local_target : (i : ℕ) (ty : Ty) → Slot i ty → Target (local i) ty
  local_target i ty x =
      let own : spot_type z (local i) ≡ x.own = index_get z.slots i y.Nothing x.own x.at in
      let kinds = alike_kind ty x.own x.alike in
      record {
        reads = slot_kind i ty x;
        writes = λ k e. (slot_kind i ty x ∙ ap Some (sym e), subst (λ own. StoresTo own k) (sym own) (stores x.own k x.wide (e ∙ sym kinds)));
        wide = alike_wide ty x.own x.alike x.wide;
        same = λ n. own ∙ alike_number ty x.own x.alike n;
      }

  target_value : (o : Option Step) (ty : Ty) → s.target_by g o ≡ Some ty → s.value_by g o ≡ Some ty
  target_value (Some (Local i)) ty e = e
  target_value (Some (Member k m)) ty e = e
  target_value o ty e = cc

  pub path_target : (steps : List Step) (ty : Ty) → IsNamedPath z c steps → s.target_type g steps ≡ Some ty → Target (spot z.program z.base steps) ty
  path_target [] ty h e = cc
  path_target (Own ∷ []) ty h e = cc
  path_target (Own ∷ a ∷ r) ty h e = member_target (through z.program member z.base (a ∷ r)) ty (through_number member (a ∷ r) z.base (Some c) ty h (ap (s.value_by g) (sym (last_more Own a r)) ∙ target_value (s.last_step (Own ∷ a ∷ r)) ty e))
  path_target (Local i ∷ []) ty h e = local_target i ty (slot_of i ty e)
  path_target (Local i ∷ a ∷ r) ty h e = part_target i (through z.program (part i) 0 (a ∷ r)) ty h.1 (through_number (part i) (a ∷ r) 0 (Some h.0.0) ty h.0.1 (ap (s.value_by g) (sym (last_more (Local i) a r)) ∙ target_value (s.last_step (Local i ∷ a ∷ r)) ty e))
  path_target (Constant num v ∷ []) ty h e = cc
  path_target (Constant num v ∷ a ∷ r) ty h e = absurd h.0
  path_target (Member k m ∷ r) ty h e = member_target (through z.program member z.base (Member k m ∷ r)) ty (through_number member (Member k m ∷ r) z.base (Some c) ty h (target_value (s.last_step (Member k m ∷ r)) ty e))
  path_target (AFunction k f ∷ r) ty h e = member_target (through z.program member z.base (AFunction k f ∷ r)) ty (through_number member (AFunction k f ∷ r) z.base (Some c) ty h (target_value (s.last_step (AFunction k f ∷ r)) ty e))
  path_target (ABuilt b ∷ r) ty h e = member_target (through z.program member z.base (ABuilt b ∷ r)) ty (through_number member (ABuilt b ∷ r) z.base (Some c) ty h (target_value (s.last_step (ABuilt b ∷ r)) ty e))

  -- what is read and written with an index
  pub record Item (at : Spot) (ty : Ty) : Type 0 where
    pub reads : ReadsAtKind z at (operand_of ty)
    pub writes : (k : Operand) → k ≡ operand_of ty → WritesAtKind z at k
    pub wide : BitsWide ty
    pub same : IsNumber ty → spot_type z at ≡ ty

  window_item : (ty : Ty) → ty ≡ y.Atom → Item window ty
  window_item ty e = record { reads = ap operand_of e; writes = λ k f. f ∙ ap operand_of e; wide = subst BitsWide (sym e) (λ m f. cc); same = λ n. let d : Atom ≡ Number = sym (ap operand_of e) ∙ n in cc }

  member_at : (at : Spot) (ty : Ty) → AnItem at member ty → Item at ty
  member_at at ty x = ⊎_elim
      (λ w. subst (λ at. Item at ty) (sym w.0) (window_item ty w.1))
      (λ p. subst (λ at. Item at ty) (sym p.1) (record { reads = ((p.3, p.4), ap operand_of p.2); writes = λ k f. ((p.3, p.4), f ∙ ap operand_of p.2); wide = number_bits p.0 ty p.2 p.3; same = λ n. sym p.2 })) x.is

  part_at : (i : ℕ) (at : Spot) (ty : Ty) → HasSlot z i Atom → AnItem at (part i) ty → Item at ty
  part_at i at ty h x = ⊎_elim
      (λ w. subst (λ at. Item at ty) (sym w.0) (window_item ty w.1))
      (λ p. subst (λ at. Item at ty) (sym p.1) (record { reads = (h, (p.3, p.4), ap operand_of p.2); writes = λ k f. (h, (p.3, p.4), f ∙ ap operand_of p.2); wide = number_bits p.0 ty p.2 p.3; same = λ n. sym p.2 })) x.is

  pub path_item : (steps : List Step) (ty : Ty) → IsNamedPath z c steps → s.item_type g steps ≡ Some ty → Item (spot z.program z.base steps) ty
  path_item [] ty h e = cc
  path_item (Own ∷ []) ty h e = cc
  path_item (Own ∷ a ∷ r) ty h e = member_at (through z.program member z.base (a ∷ r)) ty (through_item member (a ∷ r) z.base (Some c) ty h (ap (s.item_by g) (sym (last_more Own a r)) ∙ e))
  path_item (Local i ∷ []) ty h e = cc
  path_item (Local i ∷ a ∷ r) ty h e = part_at i (through z.program (part i) 0 (a ∷ r)) ty h.1 (through_item (part i) (a ∷ r) 0 (Some h.0.0) ty h.0.1 (ap (s.item_by g) (sym (last_more (Local i) a r)) ∙ e))
  path_item (Constant num v ∷ []) ty h e = cc
  path_item (Constant num v ∷ a ∷ r) ty h e = absurd h.0
  path_item (Member k m ∷ r) ty h e = member_at (through z.program member z.base (Member k m ∷ r)) ty (through_item member (Member k m ∷ r) z.base (Some c) ty h e)
  path_item (AFunction k f ∷ r) ty h e = member_at (through z.program member z.base (AFunction k f ∷ r)) ty (through_item member (AFunction k f ∷ r) z.base (Some c) ty h e)
  path_item (ABuilt b ∷ r) ty h e = member_at (through z.program member z.base (ABuilt b ∷ r)) ty (through_item member (ABuilt b ∷ r) z.base (Some c) ty h e)

  -- what a path calls, as types and as meaning see it
  abbrev pub SeesCallee : s.Callee → Callee → Type 0
  SeesCallee (s.function f) (called k) = SeenFunction f (function_of z.program k)
  SeesCallee (s.built b) (built_in d) = d ≡ b
  SeesCallee f m = ⊥

  called_function : (k m x : ℕ) (f : s.Callee) → s.callee_function (s.function_in m (slice_get g.classes k)) ≡ Some f → SeesCallee f (called (record { class = k; function = m; base = x }))
  called_function k m x f e = by_sig (s.function_in m (slice_get g.classes k)) refl e
    where
      by_sig : (o : Option s.FunctionSig) → s.function_in m (slice_get g.classes k) ≡ o → s.callee_function o ≡ Some f → SeesCallee f (called (record { class = k; function = m; base = x }))
      by_sig None q e = cc
      by_sig (Some h) q e = let w : s.function h ≡ f = cc in subst (λ f. SeesCallee f (called (record { class = k; function = m; base = x }))) w (function_same k m h q)

  through_callee : (steps : List Step) (x : ℕ) (o : Option ℕ) (f : s.Callee) → PathIn z.program o steps → s.callee_by g (s.last_step steps) ≡ Some f → SeesCallee f (callee z.program x steps)
  through_callee [] x o f h e = cc
  through_callee (Member k m ∷ []) x o f h e = cc
  through_callee (Member k m ∷ a ∷ r) x o f h e = through_callee (a ∷ r) (bit_of z.program x k m) (class_in (field_at z.program k m).ty) f h.1 (ap (s.callee_by g) (sym (last_more (Member k m) a r)) ∙ e)
  through_callee (AFunction k m ∷ []) x o f h e = called_function k m x f e
  through_callee (AFunction k m ∷ a ∷ r) x o f h e = absurd h.1
  through_callee (ABuilt b ∷ []) x o f h e = let w : s.built b ≡ f = cc in subst (λ f. SeesCallee f (built_in b)) w refl
  through_callee (ABuilt b ∷ a ∷ r) x o f h e = absurd h
  through_callee (Constant num v ∷ r) x o f h e = absurd h
  through_callee (Own ∷ r) x o f h e = absurd h
  through_callee (Local i ∷ r) x o f h e = absurd h

  pub path_callee : (steps : List Step) (f : s.Callee) → IsNamedPath z c steps → s.callee g steps ≡ Some f → SeesCallee f (callee z.program z.base steps)
  path_callee [] f h e = cc
  path_callee (Own ∷ []) f h e = cc
  path_callee (Own ∷ a ∷ r) f h e = through_callee (a ∷ r) z.base (Some c) f h (ap (s.callee_by g) (sym (last_more Own a r)) ∙ e)
  path_callee (Local i ∷ r) f h e = cc
  path_callee (Constant num v ∷ []) f h e = cc
  path_callee (Constant num v ∷ a ∷ r) f h e = absurd h.0
  path_callee (Member k m ∷ r) f h e = through_callee (Member k m ∷ r) z.base (Some c) f h e
  path_callee (AFunction k m ∷ r) f h e = through_callee (AFunction k m ∷ r) z.base (Some c) f h e
  path_callee (ABuilt b ∷ r) f h e = through_callee (ABuilt b ∷ r) z.base (Some c) f h e

  pub named_path : (steps : List Step) → IsNamedPath z c steps → HasPath z.program c steps
  named_path [] h = h
  named_path (Own ∷ r) h = h
  named_path (Local i ∷ []) h = h
  named_path (Local i ∷ a ∷ r) h = h.0
  named_path (Constant num v ∷ r) h = h.0
  named_path (Member k m ∷ r) h = h
  named_path (AFunction k m ∷ r) h = h
  named_path (ABuilt b ∷ r) h = h
