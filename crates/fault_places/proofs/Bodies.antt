-- What is found for a body, and its first fault, stand at places of the body.
use Rattle.std.proofs.Common.{ℕ, ◌+◌, List, [], ◌∷◌, Option, Some, None, not, ℤ, drop, nat_lt}
use Rattle.std.specs.List.{list_any}
use Rattle.feast_base.specs.declared.place.Place.{Place}
use Rattle.ulam_tree.specs.declared.resolved.Ty.{Ty}
use Rattle.ulam_tree.specs.declared.resolved.Ty.TheVariants as y
use Rattle.ulam_tree.specs.declared.resolved.Named.{Named}
use Rattle.ulam_tree.specs.Raw as t
use Rattle.ulam_tree.specs.Resolved as r
use Rattle.ulam_names.specs.Faults.{Found}
use Rattle.ulam_names.specs.declared.basic.Basic.{Basic}
use Rattle.ulam_names.specs.declared.basic.Basic.TheVariants.{Sized as sized, Whole as whole}
use Rattle.ulam_names.specs.Scopes.{Text, Head, Context, Entry, Scope, allows, is_named, inner_scope, next_name, first_name}
use Rattle.ulam_names.specs.declared.limits.TheConstants.{MOST_LOCALS}
use Rattle.ulam_names.specs.Walk as w
use Rattle.fault_places.specs.Common.{OfPlace, IfAny, Each}
use Rattle.fault_places.specs.Faults.{NamesPlace}
use Rattle.fault_places.specs.Raw as raw
use Rattle.fault_places.specs.Resolved as res
use Rattle.fault_places.proofs.Ends.{Ends, Any, ends_then, ends_found, ends_must, found_ends, must_ends}

-- P holds of the fault's place, or Q of what is found
abbrev pub Finds : {A : Type 0} → OfPlace → (A → Type 0) → Found A → Type 0
Finds P Q x = Ends (NamesPlace P) Q x

-- a type that stands at a place
abbrev pub NamedPlace : OfPlace → Named → Type 0
NamedPlace P n = P n.place

pub width_finds : (P : OfPlace) (values : Text → Option ℤ) (d : t.Width) → raw.WidthPlaces P d → Finds P Any (w.width_value values d)
width_finds P values (t.wide n) h = tt
width_finds P values (t.wide_as x) h = found_ends (NamesPlace P) (values x.name) _ h

sized_finds : (P : OfPlace) (values : Text → Option ℤ) (p : Place) (b : Basic) (d : Option t.Width) → P p → IfAny (raw.WidthPlaces P) d → Finds P Any (w.sized_by values p b d)
sized_finds P values p (whole b) None hp hd = tt
sized_finds P values p (whole b) (Some d) hp hd = hp
sized_finds P values p (sized k n) None hp hd = tt
sized_finds P values p (sized k n) (Some d) hp hd =
    ends_then (NamesPlace P) Any Any (w.width_value values d) _ (width_finds P values d hd) (λ v hv. ends_must (NamesPlace P) Any (allows k v) _ _ hp tt)

pub type_finds : (P : OfPlace) (basics : Text → Option Basic) (values : Text → Option ℤ) (x : t.TypeRef) → raw.TypePlaces P x → Finds P (NamedPlace P) (w.type_named basics values x)
type_finds P basics values x h =
    let Q : Named → Type 0 = NamedPlace P in
    ends_found (NamesPlace P) Q (basics x.word.name) _ _ h.0 (λ b.
    ends_then (NamesPlace P) Any Q (w.sized_by values x.word.place b x.width) _ (sized_finds P values x.word.place b x.width h.0 h.1) (λ ty ht. h.0))

class_finds : (P : OfPlace) (basics : Text → Option Basic) (x : t.Word) → P x.place → Finds P (NamedPlace P) (w.class_named basics x)
class_finds P basics x h = ends_found (NamesPlace P) (NamedPlace P) (basics x.name) _ _ h (λ b. h)

-- Paths

abbrev PathPlace : OfPlace → r.Path → Type 0
PathPlace P q = P q.place

steps_find : (P : OfPlace) (heads : List Head) (ty : Ty) (ws : List t.Word) → Each (raw.WordPlace P) ws → Finds P Any (w.steps_after heads ty ws)
steps_find P heads ty [] h = tt
steps_find P heads ty (x ∷ ws) h =
    ends_found (NamesPlace P) Any (next_name heads ty x.name) _ _ h.0 (λ a.
    ends_then (NamesPlace P) Any Any (w.steps_after heads a.1 ws) _ (steps_find P heads a.1 ws h.1) (λ more hm. tt))

path_from_finds : (P : OfPlace) (c : Context) (es : List Entry) (own : Option Place) (ws : List t.Word) → raw.PathPlacesOf P own ws → Finds P (PathPlace P) (w.path_from c es own ws)
path_from_finds P c es (Some p) ws h =
    ends_then (NamesPlace P) Any (PathPlace P) (w.steps_after c.heads (y.Class c.own) ws) _ (steps_find P c.heads (y.Class c.own) ws h.1) (λ more hm. h.0)
path_from_finds P c es None [] h = absurd h
path_from_finds P c es None (x ∷ ws) h =
    ends_found (NamesPlace P) (PathPlace P) (first_name c es x.name) _ _ h.0 (λ a.
    ends_then (NamesPlace P) Any (PathPlace P) (w.steps_after c.heads a.1 ws) _ (steps_find P c.heads a.1 ws h.1) (λ more hm. h.0))

path_finds : (P : OfPlace) (c : Context) (es : List Entry) (x : t.Path) → raw.PathPlaces P x → Finds P (PathPlace P) (w.path c es x)
path_finds P c es x h = path_from_finds P c es x.own x.words h

-- Expressions

mutual
  expr_finds : (P : OfPlace) (c : Context) (es : List Entry) (e : t.Expr) → raw.ExprPlaces P e → Finds P (res.ExprPlaces P) (w.expr c es e)
  expr_finds P c es (t.number n u p) h = h
  expr_finds P c es (t.truth b p) h = h
  expr_finds P c es (t.reads g) h = ends_then (NamesPlace P) _ (res.ExprPlaces P) (w.path c es g) _ (path_finds P c es g h) (λ q hq. hq)
  expr_finds P c es (t.calls g xs) h =
      ends_then (NamesPlace P) _ (res.ExprPlaces P) (w.path c es g) _ (path_finds P c es g h.0) (λ q hq.
      ends_then (NamesPlace P) _ (res.ExprPlaces P) (w.args c es xs) _ (args_find P c es xs h.1) (λ a ha. (hq, ha)))
  expr_finds P c es (t.index g e) h =
      ends_then (NamesPlace P) _ (res.ExprPlaces P) (w.path c es g) _ (path_finds P c es g h.0) (λ q hq.
      ends_then (NamesPlace P) _ (res.ExprPlaces P) (w.expr c es e) _ (expr_finds P c es e h.1) (λ d hd. (hq, hd)))
  expr_finds P c es (t.instance d) h = ends_then (NamesPlace P) _ (res.ExprPlaces P) (w.class_named (w.basic_in c) d) _ (class_finds P (w.basic_in c) d h) (λ n hn. hn)
  expr_finds P c es (t.group e p) h = ends_then (NamesPlace P) _ (res.ExprPlaces P) (w.expr c es e) _ (expr_finds P c es e h.1) (λ d hd. (h.0, hd))
  expr_finds P c es (t.cast ty e p) h =
      ends_then (NamesPlace P) _ (res.ExprPlaces P) (w.type_in c es ty) _ (type_finds P (w.basic_in c) (w.constant_in c es) ty h.1) (λ n hn.
      ends_then (NamesPlace P) _ (res.ExprPlaces P) (w.expr c es e) _ (expr_finds P c es e h.2) (λ d hd. (h.0, hn, hd)))
  expr_finds P c es (t.prefix op e p) h = ends_then (NamesPlace P) _ (res.ExprPlaces P) (w.expr c es e) _ (expr_finds P c es e h.1) (λ d hd. (h.0, hd))
  expr_finds P c es (t.pair op e f p) h =
      ends_then (NamesPlace P) _ (res.ExprPlaces P) (w.expr c es e) _ (expr_finds P c es e h.1) (λ d hd.
      ends_then (NamesPlace P) _ (res.ExprPlaces P) (w.expr c es f) _ (expr_finds P c es f h.2) (λ g hg. (h.0, hd, hg)))
  expr_finds P c es (t.is e k p) h =
      ends_then (NamesPlace P) _ (res.ExprPlaces P) (w.expr c es e) _ (expr_finds P c es e h.1) (λ d hd.
      ends_then (NamesPlace P) _ (res.ExprPlaces P) (w.class_named (w.basic_in c) k) _ (class_finds P (w.basic_in c) k h.2) (λ n hn. (h.0, hd, hn)))

  args_find : (P : OfPlace) (c : Context) (es : List Entry) (xs : t.Args) → raw.ArgsPlaces P xs → Finds P (res.ArgsPlaces P) (w.args c es xs)
  args_find P c es t.no_args h = tt
  args_find P c es (t.arg e xs) h =
      ends_then (NamesPlace P) _ (res.ArgsPlaces P) (w.expr c es e) _ (expr_finds P c es e h.0) (λ d hd.
      ends_then (NamesPlace P) _ (res.ArgsPlaces P) (w.args c es xs) _ (args_find P c es xs h.1) (λ a ha. (hd, ha)))

maybe_finds : (P : OfPlace) (c : Context) (es : List Entry) (e : Option t.Expr) → IfAny (raw.ExprPlaces P) e → Finds P (IfAny (res.ExprPlaces P)) (w.maybe_expr c es e)
maybe_finds P c es None h = tt
maybe_finds P c es (Some e) h = ends_then (NamesPlace P) _ (IfAny (res.ExprPlaces P)) (w.expr c es e) _ (expr_finds P c es e h) (λ d hd. hd)

-- Parts of statements

left_finds : (P : OfPlace) (c : Context) (es : List Entry) (l : t.Left) → raw.LeftPlaces P l → Finds P (res.LeftPlaces P) (w.left_side c es l)
left_finds P c es l h =
    ends_then (NamesPlace P) _ (res.LeftPlaces P) (w.path c es l.path) _ (path_finds P c es l.path h.0) (λ q hq.
    ends_then (NamesPlace P) _ (res.LeftPlaces P) (w.maybe_expr c es l.index) _ (maybe_finds P c es l.index h.1) (λ i hi. (hq, hi)))

cond_finds : (P : OfPlace) (c : Context) (es : List Entry) (k : t.Cond) → raw.CondPlaces P k → Finds P (res.CondPlaces P) (w.cond c es k)
cond_finds P c es (t.seen g d) h =
    ends_then (NamesPlace P) _ (res.CondPlaces P) (w.path c es (w.one_word g)) _ (path_finds P c es (w.one_word g) (h.0, tt)) (λ q hq.
    ends_then (NamesPlace P) _ (res.CondPlaces P) (w.class_named (w.basic_in c) d) _ (class_finds P (w.basic_in c) d h.1) (λ n hn. (hq, hn)))
cond_finds P c es (t.test e) h = ends_then (NamesPlace P) _ (res.CondPlaces P) (w.expr c es e) _ (expr_finds P c es e h) (λ d hd. hd)

declared_finds : (P : OfPlace) (c : Context) (s : Scope) (n : ℕ) (x : t.Word) → P x.place → Finds P Any (w.may_declare c s n x)
declared_finds P c s n x h =
    ends_must (NamesPlace P) Any (nat_lt n (c.params + MOST_LOCALS)) _ _ h
    (must_ends (NamesPlace P) (not (list_any (is_named x.name) (drop s.from s.entries))) _ h)

-- Statements

mutual
  statement_finds : (P : OfPlace) (c : Context) (s : Scope) (n : ℕ) (f : t.Statement) → raw.StatementPlaces P f → Finds P (res.StatementPlaces P) (w.statement c s n f)
  statement_finds P c s n (t.block b) h = ends_then (NamesPlace P) _ (res.StatementPlaces P) (w.body c (inner_scope s) n b) _ (body_finds P c (inner_scope s) n b h) (λ a ha. ha)
  statement_finds P c s n t.empty h = tt
  statement_finds P c s n (t.if_so k f g) h =
      ends_then (NamesPlace P) _ (res.StatementPlaces P) (w.cond c s.entries k) _ (cond_finds P c s.entries k h.0) (λ d hd.
      let s1 : Scope = inner_scope (w.branch_scope c.heads s k (w.shown_element d)) in
      ends_then (NamesPlace P) _ (res.StatementPlaces P) (w.statement c s1 n f) _ (statement_finds P c s1 n f h.1) (λ a ha.
      ends_then (NamesPlace P) _ (res.StatementPlaces P) (w.part c (inner_scope s) (n + w.locals_of f) g) _ (part_finds P c (inner_scope s) (n + w.locals_of f) g h.2) (λ b hb. (hd, ha, hb))))
  statement_finds P c s n (t.while_so k f) h =
      ends_then (NamesPlace P) _ (res.StatementPlaces P) (w.expr c s.entries k) _ (expr_finds P c s.entries k h.0) (λ d hd.
      ends_then (NamesPlace P) _ (res.StatementPlaces P) (w.statement c (inner_scope s) n f) _ (statement_finds P c (inner_scope s) n f h.1) (λ a ha. (hd, ha)))
  statement_finds P c s n (t.for_all f k g x) h =
      ends_then (NamesPlace P) _ (res.StatementPlaces P) (w.part c (inner_scope s) n f) _ (part_finds P c (inner_scope s) n f h.0) (λ a ha.
      let s1 : Scope = w.after_part c.heads (inner_scope s) n f a in
      ends_then (NamesPlace P) _ (res.StatementPlaces P) (w.maybe_expr c s1.entries k) _ (maybe_finds P c s1.entries k h.1) (λ d hd.
      ends_then (NamesPlace P) _ (res.StatementPlaces P) (w.part c s1 (n + w.locals_part f) g) _ (part_finds P c s1 (n + w.locals_part f) g h.2) (λ b hb.
      ends_then (NamesPlace P) _ (res.StatementPlaces P) (w.statement c (inner_scope s1) (n + w.locals_part f + w.locals_part g) x) _ (statement_finds P c (inner_scope s1) (n + w.locals_part f + w.locals_part g) x h.3) (λ z hz. (ha, hd, hb, hz)))))
  statement_finds P c s n (t.returns p e) h = ends_then (NamesPlace P) _ (res.StatementPlaces P) (w.maybe_expr c s.entries e) _ (maybe_finds P c s.entries e h.1) (λ d hd. (h.0, hd))
  statement_finds P c s n (t.breaks p) h = h
  statement_finds P c s n (t.continues p) h = h
  statement_finds P c s n (t.declares ty x e) h =
      ends_then (NamesPlace P) _ (res.StatementPlaces P) (w.type_in c s.entries ty) _ (type_finds P (w.basic_in c) (w.constant_in c s.entries) ty h.0) (λ m hm.
      ends_then (NamesPlace P) Any (res.StatementPlaces P) (w.may_declare c s n x) _ (declared_finds P c s n x h.1) (λ u hu.
      ends_then (NamesPlace P) _ (res.StatementPlaces P) (w.maybe_expr c s.entries e) _ (maybe_finds P c s.entries e h.2) (λ d hd. (hm, h.1, hd))))
  statement_finds P c s n (t.assigns l op e) h =
      ends_then (NamesPlace P) _ (res.StatementPlaces P) (w.left_side c s.entries l) _ (left_finds P c s.entries l h.0) (λ m hm.
      ends_then (NamesPlace P) _ (res.StatementPlaces P) (w.expr c s.entries e) _ (expr_finds P c s.entries e h.1) (λ d hd. (hm, hd)))
  statement_finds P c s n (t.counts l up) h = ends_then (NamesPlace P) _ (res.StatementPlaces P) (w.left_side c s.entries l) _ (left_finds P c s.entries l h) (λ m hm. hm)
  statement_finds P c s n (t.does p xs) h =
      ends_then (NamesPlace P) _ (res.StatementPlaces P) (w.path c s.entries p) _ (path_finds P c s.entries p h.0) (λ q hq.
      ends_then (NamesPlace P) _ (res.StatementPlaces P) (w.args c s.entries xs) _ (args_find P c s.entries xs h.1) (λ a ha. (hq, ha)))

  part_finds : (P : OfPlace) (c : Context) (s : Scope) (n : ℕ) (f : t.Part) → raw.PartPlaces P f → Finds P (res.PartPlaces P) (w.part c s n f)
  part_finds P c s n t.no_part h = tt
  part_finds P c s n (t.part f) h = ends_then (NamesPlace P) _ (res.PartPlaces P) (w.statement c s n f) _ (statement_finds P c s n f h) (λ a ha. ha)

  pub body_finds : (P : OfPlace) (c : Context) (s : Scope) (n : ℕ) (b : t.Body) → raw.BodyPlaces P b → Finds P (res.BodyPlaces P) (w.body c s n b)
  body_finds P c s n t.no_more h = tt
  body_finds P c s n (t.then_so f b) h =
      ends_then (NamesPlace P) _ (res.BodyPlaces P) (w.statement c s n f) _ (statement_finds P c s n f h.0) (λ a ha.
      let s1 : Scope = w.after c.heads s n f a in
      ends_then (NamesPlace P) _ (res.BodyPlaces P) (w.body c s1 (n + w.locals_of f) b) _ (body_finds P c s1 (n + w.locals_of f) b h.1) (λ z hz. (ha, hz)))
