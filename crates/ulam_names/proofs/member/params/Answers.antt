use Rattle.std.proofs.Common.{◌≡◌, ◌∙◌, sym, ap, List, [], ◌∷◌, ◌+◌, length, drop, map, arith, rules, true, false}
use Rattle.std.proofs.lemmas.Bool.{lt-ltb, le-ltb}
use Rattle.std.proofs.lemmas.List.{at_drop_more, length-map, map-append}
use Rattle.std.proofs.lemmas.Grind.{common_steps}
use Rattle.ulam_tree.specs.Raw as t
use Rattle.ulam_tree.specs.Resolved as r
use Rattle.ulam_tree.specs.RawViews as raw_view
use Rattle.ulam_tree.specs.declared.raw.Param.{Param}
use Rattle.ulam_names.specs.declared.half.HalfParam.{HalfParam}
use Rattle.ulam_tree.specs.Found.{with_front}
use Rattle.ulam_names.specs.Classes as walk
use Rattle.ulam_names.specs.NamesView.{names_view}
use Rattle.ulam_names.specs.Scopes.{Names, Text, is_among}
use Rattle.ulam_names.specs.Shown.{param_of, param_names}
use Rattle.ulam_names.proofs.Members.{param_many, param_twice, params_on}
use Rattle.ulam_names.proofs.member.params.Goals as goal

pub returns-in_err-of : goal.returns-in_err-of
returns-in_err-of c =
    let d : Names = names_view c.args.names.now in
    let rest : List t.Param = map raw_view.param_of (drop (c.loop-param.param-index + 1) c.args.raw.now) in
    let front : List r.Param = map param_of c.loop-param.found in
    let done : List Text = param_names c.loop-param.found in
    let e : walk.params_of c.args.known.now d [] (map raw_view.param_of c.args.raw.now) ≡ with_front front (walk.params_of c.args.known.now d done (raw_view.param_of c.param-item.result ∷ rest)) =
    c.loop-param.invariant
    ∙ at_drop_more (λ (zs : List Param). with_front front (walk.params_of c.args.known.now d done (map raw_view.param_of zs))) c.args.raw.now c.loop-param.param-index c.param-item.result c.loop-param-test.true
    ∙ ap (λ (x : Param). with_front front (walk.params_of c.args.known.now d done (raw_view.param_of x ∷ rest))) (sym c.param-item.is) in
    rw e (first_of (search rules, grind (arith, common_steps)))

pub returns-then-len-ge-MOST_PARAMS : goal.returns-then-len-ge-MOST_PARAMS
returns-then-len-ge-MOST_PARAMS c =
    let d : Names = names_view c.args.names.now in
    let rest : List t.Param = map raw_view.param_of (drop (c.loop-param.param-index + 1) c.args.raw.now) in
    let front : List r.Param = map param_of c.loop-param.found in
    let done : List Text = param_names c.loop-param.found in
    let size : length done ≡ length c.loop-param.found = length-map c.loop-param.found (λ (p : HalfParam). p.word.now.name) in
    c.loop-param.invariant
    ∙ at_drop_more (λ (zs : List Param). with_front front (walk.params_of c.args.known.now d done (map raw_view.param_of zs))) c.args.raw.now c.loop-param.param-index c.param-item.result c.loop-param-test.true
    ∙ ap (λ (x : Param). with_front front (walk.params_of c.args.known.now d done (raw_view.param_of x ∷ rest))) (sym c.param-item.is)
    ∙ param_many c.args.known.now d done front (raw_view.param_of c.param-item.result) rest c.in_ok-of.of c.in_ok-of.ensures (le-ltb (length done) 8 (omega (arith, size, c.len.ensures.count, c.if-len-ge-MOST_PARAMS.true)))

pub returns-then-has_param : goal.returns-then-has_param
returns-then-has_param c =
    let d : Names = names_view c.args.names.now in
    let rest : List t.Param = map raw_view.param_of (drop (c.loop-param.param-index + 1) c.args.raw.now) in
    let front : List r.Param = map param_of c.loop-param.found in
    let done : List Text = param_names c.loop-param.found in
    let size : length done ≡ length c.loop-param.found = length-map c.loop-param.found (λ (p : HalfParam). p.word.now.name) in
    let among : is_among c.param-item.result.word.name done ≡ true = ap (λ (n : Text). is_among n done) (sym c.bytes.ensures) ∙ ap (λ (ps : List HalfParam). is_among c.bytes.result.now (param_names ps)) (sym c.as_slice.ensures) ∙ sym c.has_param.ensures ∙ c.if-has_param.true in
    c.loop-param.invariant
    ∙ at_drop_more (λ (zs : List Param). with_front front (walk.params_of c.args.known.now d done (map raw_view.param_of zs))) c.args.raw.now c.loop-param.param-index c.param-item.result c.loop-param-test.true
    ∙ ap (λ (x : Param). with_front front (walk.params_of c.args.known.now d done (raw_view.param_of x ∷ rest))) (sym c.param-item.is)
    ∙ param_twice c.args.known.now d done front (raw_view.param_of c.param-item.result) rest c.in_ok-of.of c.in_ok-of.ensures (lt-ltb (length done) 8 (omega (arith, size, c.len.ensures.count, c.if-len-ge-MOST_PARAMS.false))) among

pub loop-param-preserved : goal.loop-param-preserved
loop-param-preserved c =
    let d : Names = names_view c.args.names.now in
    let rest : List t.Param = map raw_view.param_of (drop (c.loop-param.param-index + 1) c.args.raw.now) in
    let front : List r.Param = map param_of c.loop-param.found in
    let done : List Text = param_names c.loop-param.found in
    let size : length done ≡ length c.loop-param.found = length-map c.loop-param.found (λ (p : HalfParam). p.word.now.name) in
    let among : is_among c.param-item.result.word.name done ≡ false = ap (λ (n : Text). is_among n done) (sym c.bytes.ensures) ∙ ap (λ (ps : List HalfParam). is_among c.bytes.result.now (param_names ps)) (sym c.as_slice.ensures) ∙ sym c.has_param.ensures ∙ c.if-has_param.false in
    c.loop-param.invariant
    ∙ at_drop_more (λ (zs : List Param). with_front front (walk.params_of c.args.known.now d done (map raw_view.param_of zs))) c.args.raw.now c.loop-param.param-index c.param-item.result c.loop-param-test.true
    ∙ ap (λ (x : Param). with_front front (walk.params_of c.args.known.now d done (raw_view.param_of x ∷ rest))) (sym c.param-item.is)
    ∙ params_on c.args.known.now d done front (raw_view.param_of c.param-item.result) rest c.in_ok-of.of c.in_ok-of.ensures
    (map param_of c.push.new.self) (param_names c.push.new.self)
    (lt-ltb (length done) 8 (omega (arith, size, c.len.ensures.count, c.if-len-ge-MOST_PARAMS.false))) among
    (ap (map param_of) c.in_ok-push.ensures.ok ∙ map-append param_of c.loop-param.found _)
    (ap param_names c.in_ok-push.ensures.ok ∙ map-append (λ (p : HalfParam). p.word.now.name) c.loop-param.found _)
