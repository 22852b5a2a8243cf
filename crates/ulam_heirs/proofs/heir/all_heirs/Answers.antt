use Rattle.std.proofs.Common.{arith, ◌≡◌, ◌∙◌, sym, ap, ℕ, ◌+◌, List, ◌∷◌, ◌++◌, drop, get_or, Some, None, append-nil, append_assoc}
use Rattle.std.specs.Prelude.{slice_get}
use Rattle.std.proofs.lemmas.List.{at_drop_more, at_drop_all}
use Rattle.std.proofs.lemmas.Option.{slice_get-get_or, slice_get_past}
use Rattle.ulam_tree.specs.RawViews.{file_of}
use Rattle.ulam_tree.specs.declared.raw.File.{File}
use Rattle.ulam_tree.specs.declared.raw.Item.{Item}
use Rattle.ulam_heirs.specs.Heads.{Heads}
use Rattle.ulam_heirs.specs.Lines.{Heir}
use Rattle.ulam_heirs.specs.Files.{heirs_in, all_heirs}
use Rattle.ulam_heirs.specs.Views.{heirs_of, items_of, files_of}
use Rattle.ulam_heirs.proofs.Turns.{heads_on, heads_none}
use Rattle.ulam_heirs.proofs.heir.all_heirs.Goals as goal

pub loop-file-preserved : goal.loop-file-preserved
loop-file-preserved c =
    let files : List File = c.args.files.now in
    let item : File = c.file-item.result in
    let i : ℕ = c.loop-file.file-index in
    let heads : List Heads = c.args.heads.now in
    let taken : Heads = c.in-Some.taken.now in
    let front : List Heir = heirs_of c.loop-file.found.items in
    let rest : List Heir = all_heirs (files_of (drop (i + 1) files)) (drop (i + 1) heads) in
    let got : slice_get heads i ≡ Some taken = ap (slice_get heads) (sym c.loop-file.invariant.index) ∙ slice_get-get_or heads c.loop-file.index taken c.in-Some.ensures.lookup.3.0 ∙ ap Some (sym c.in-Some.ensures.lookup.1) in
    let added : heirs_of c.add_file.new.found.items ≡ front ++ heirs_in taken (file_of item) =
    c.in_ok-add_file.ensures ∙ ap (λ (xs : List Item). front ++ heirs_in taken (items_of xs)) c.as_slice.ensures.value in
    record {
      found =
          c.loop-file.invariant.found
          ∙ at_drop_more (λ (zs : List File). front ++ all_heirs (files_of zs) (drop i heads)) files i item c.loop-file-test.true
          ∙ ap (λ (x : File). front ++ all_heirs (file_of x ∷ files_of (drop (i + 1) files)) (drop i heads)) (sym c.file-item.is)
          ∙ ap (λ (xs : List Heir). front ++ xs) (heads_on (file_of item) (files_of (drop (i + 1) files)) heads i taken got)
          ∙ sym (append_assoc front (heirs_in taken (file_of item)) rest)
          ∙ ap (λ (xs : List Heir). xs ++ rest) (sym added);
      index = omega (arith, c.loop-file.invariant.index);
    }

pub returns-in_default : goal.returns-in_default
returns-in_default c =
    let files : List File = c.args.files.now in
    let item : File = c.file-item.result in
    let i : ℕ = c.loop-file.file-index in
    let heads : List Heads = c.args.heads.now in
    let front : List Heir = heirs_of c.loop-file.found.items in
    let none : slice_get heads i ≡ None = ap (slice_get heads) (sym c.loop-file.invariant.index) ∙ slice_get_past heads c.loop-file.index c.in_default.ensures.lookup.3 in
    sym (
    c.loop-file.invariant.found
    ∙ at_drop_more (λ (zs : List File). front ++ all_heirs (files_of zs) (drop i heads)) files i item c.loop-file-test.true
    ∙ ap (λ (xs : List Heir). front ++ xs) (heads_none (file_of (get_or files i item)) (files_of (drop (i + 1) files)) heads i none)
    ∙ append-nil front
    )

pub returns : goal.returns
returns c =
    let i : ℕ = c.loop-file.file-index in
    let front : List Heir = heirs_of c.loop-file.found.items in
    sym (
    c.loop-file.invariant.found
    ∙ at_drop_all (λ (zs : List File). front ++ all_heirs (files_of zs) (drop i c.args.heads.now)) c.args.files.now i c.loop-file-test.false
    ∙ append-nil front
    )
