-- The source has its tree.
use Rattle.std.proofs.Common.{◌≡◌, List, [], ◌∷◌, None, Ok, Err, refl}
use Rattle.std.specs.Prelude.{flat_map}
use Rattle.ulam_heirs.specs.Laws.{no_heads}
use Rattle.ulam_heirs.specs.Faults.{first_fault}
use Rattle.ulam_heirs.specs.Files.{all_heirs, flat_files}
use Rattle.ulam_heirs.specs.Heads.{heads_of, role_of, tokens_left}
use Rattle.ulam_heirs.specs.Lines.{upward}
use Rattle.ulam_heirs.proofs.Ordered.{left_in_order}
use Rattle.ulam_lex.proofs.Spans.{in_order}
use Rattle.ulam_lex.specs.Bytes.{keywords as keyword_texts, signs as sign_texts}
use Rattle.ulam_parse.proofs.Laws.{sentence_law}
use Rattle.ulam_parse.proofs.Orders.{order_ends}
use Rattle.ulam_parse.specs.Files.{whole_file, param, more_params, params, const_in, truth_in, const_value, typedef_in, constant_in, length_in, function_rest, field_rest, named_member, member, members, class_in, version_in, use_in, class_item, item, items}
use Rattle.ulam_parse.specs.Nesting.{outside}
use Rattle.ulam_parse.specs.Reading.{Read, same, width, width_between, size, type_ref, names_after_dots, path, new_atom, more_args, args, after_path, in_parens, operand, more, climb, expr_in}
use Rattle.ulam_parse.specs.Sentences.{IsSentence, deep_from}
use Rattle.ulam_parse.specs.Statements.{cond, index_in, left_side, maybe, start, declare, assign, after_names, count_statement, simple, first_part, step_part, for_head, if_head, while_head, end_statement, return_rest, else_part, if_rest, while_rest, for_rest, body, block_rest, any_statement, statement_in}
use Rattle.ulam_parse.specs.Tokens.{Tok, toks, keywords, signs}
use Rattle.ulam_tree.specs.Raw.{Item}
use Rattle.ulam_tree.specs.Ways.{leads}
use Rattle.feast_run.specs.GeneratedElements.{source_text}
use Rattle.feast_run.proofs.GeneratedSource.Lexing.{pieces, tokens, are_tokens}
use Rattle.feast_run.proofs.GeneratedSource.Trees.{tree}

-- what the parser sees
unfoldable pub seen : List Tok
seen = toks source_text (tokens_left source_text tokens)

-- what is left behind the items
abbrev left_in : Read (List Item) → List Tok
left_in (Ok x) = x.1
left_in (Err e) = []

shallow : deep_from 0 outside seen ≡ None
unfolding seen tokens pieces source_text keyword_texts sign_texts role_of keywords signs
shallow = refl

reads : whole_file seen ≡ Ok (tree, left_in (whole_file seen))
unfolding tree seen tokens pieces source_text keyword_texts sign_texts role_of keywords signs param more_params params const_in truth_in const_value typedef_in constant_in length_in function_rest field_rest named_member member members class_in version_in use_in class_item item items same width width_between size type_ref names_after_dots path new_atom more_args args after_path in_parens operand more climb expr_in cond index_in left_side maybe start declare assign after_names count_statement simple first_part step_part for_head if_head while_head end_statement return_rest else_part if_rest while_rest for_rest body block_rest any_statement statement_in
reads = refl

pub is_tree : IsSentence tree seen
unfolding seen
is_tree =
    let left = tokens_left source_text tokens in
    let ends = order_ends source_text 0 left (left_in_order source_text tokens left refl (in_order 0 source_text tokens are_tokens)) in
    sentence_law (toks source_text left) tree ends shallow (left_in (whole_file (toks source_text left)), reads)

pub are_heads : no_heads ≡ heads_of source_text tokens
unfolding tokens pieces source_text keyword_texts sign_texts role_of
are_heads = refl

pub no_fault : first_fault (all_heirs (tree ∷ []) (no_heads ∷ [])) ≡ None
unfolding tree upward leads
no_fault = refl

pub is_flat : tree ≡ flat_map (λ (f : List Item). f) (flat_files (tree ∷ []) (no_heads ∷ []))
unfolding tree upward leads
is_flat = refl
