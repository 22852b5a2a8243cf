-- Laws of instructions.
use Rattle.std.proofs.Common.{◌≡◌, ℕ, zero, suc, ◌+◌, ◌<◌, ◌≤◌, true, List, [], ◌∷◌, ◌++◌, length, get_or, Result, Ok, refl, sym, ap, subst, ◌∙◌, arith}
use Rattle.std.proofs.lemmas.List.{append-nil}
use Rattle.sat_math.specs.declared.Kind.{Kind}
use Rattle.stack_code.specs.Valid.{number_fits}
use Rattle.stack_code.specs.declared.instr.Instr.{Instr}
use Rattle.stack_code.specs.declared.instr.Instr.TheVariants.{PushNum, PushAtom, LoadLocal, StoreLocal, Pop, LoadField, StoreField, LoadPart, StorePart, LoadSelf, LoadSite, StoreSite, Swap, IsLive, IsEmpty, RandCreate, RandOneIn, IsKind, AddI, SubI, MulI, DivI, RemI, AddU, SubU, MulU, DivU, RemU, NegI, And, Or, Xor, NotW, Shl, Shr, Fit, NotB, Eq, Ne, Lt, Le, Gt, Ge, Jump, JumpFalse, Turn, Call, Return, ReturnVoid, AddL, SubL, MulL, DivL, RemL, AddV, SubV, MulV, DivV, RemV, NegL, Dup, LoadFieldAt, StoreFieldAt, LoadPartAt, StorePartAt}
use Rattle.code_file.specs.Instrs.{IsByte, IsInstr, IsPlace, args_bytes, array_bytes, field_bytes, instr_bytes, kind_code, opcode}
use Rattle.code_file.specs.Numbers.{be, bytes_of_signed}
use Rattle.code_file.specs.Reading.{Reader, ◌>>=◌, any_byte, args_at, args_readers, array_at, field_at, fit_at, instr_at, map_reader, number_at, part_array_at, part_at, place_at, plain, signed_at, type_at, width_at}
use Rattle.code_file.specs.declared.field.Field.{Field}
use Rattle.code_file.proofs.ArgLaws.{AnyKind, FieldFits, any_laws, array_are, array_laws, be_bytes, bytes_after, field_are, field_laws, fit_laws, kind_bytes, of_field, part_array_laws, part_laws, place_laws, signed_bytes, signed_laws, type_laws, width_laws}
use Rattle.code_file.proofs.Gathers.{made_laws}
use Rattle.code_file.proofs.Laws.{IsBytes, Laws, bind_laws, no_bytes, pure_laws, same_laws}
use Rattle.code_file.proofs.NumberLaws.{number_whole}

-- the reader of the arguments of the instruction whose name has a byte
record Entry (most code : ℕ) (r : Reader Instr) : Type 1 where
  pub form : Instr → Type 0
  pub laws : Laws r args_bytes form
  pub means : (i : Instr) → form i → (opcode i ≡ code) × IsInstr most i

plain_entry : (most code : ℕ) (i : Instr) → opcode i ≡ code → IsInstr most i → args_bytes i ≡ [] → Entry most code (plain i)
plain_entry most code i named fits none = record {
  form = λ j. j ≡ i;
  laws = same_laws (plain i) (λ j. []) args_bytes (λ j. j ≡ i) (λ j. j ≡ i) (pure_laws i) (λ j f. f) (λ j f. f) (λ j f. sym (ap args_bytes f ∙ none));
  means = λ j f. (ap opcode f ∙ named, subst (IsInstr most) (sym f) fits);
}

made_entry : {A : Type 0} (most code : ℕ) (r : Reader A) (make : A → Instr) (sp : A → List ℕ) (F : A → Type 0) → Laws r sp F → ((a : A) → args_bytes (make a) ≡ sp a) → ((a : A) → F a → (opcode (make a) ≡ code) × IsInstr most (make a)) → Entry most code (map_reader r make)
made_entry {A = A} most code r make sp F l spelled fits = record {
  form = λ i. (a : A) × F a × (i ≡ make a);
  laws = made_laws r make sp F args_bytes (λ i. (a : A) × F a × (i ≡ make a)) l (λ a f. ((a, f, refl), spelled a)) (λ i f. f);
  means = λ i f. let g = fits f.0 f.1 in (ap opcode f.2 ∙ g.0, subst (IsInstr most) (sym f.2) g.1);
}

abbrev Entries : ℕ → ℕ → List (Reader Instr) → Type 1
Entries most code [] = Unit {1}
Entries most code (r ∷ rs) = Entry most code r × Entries most (suc code) rs

entry_at : (most from : ℕ) (rs : List (Reader Instr)) (d : Reader Instr) → Entries most from rs → (k : ℕ) → k < length rs → Entry most (from + k) (get_or rs k d)
entry_at most from [] d es k lt = absurd (omega (arith, lt))
entry_at most from (r ∷ rs) d es zero lt = let e : from + 0 ≡ from = omega arith in subst (λ n. Entry most n r) (sym e) es.0
entry_at most from (r ∷ rs) d es (suc k) lt = let e : suc from + k ≡ from + suc k = omega arith in subst (λ n. Entry most n (get_or rs k d)) e (entry_at most (suc from) rs d es.1 k (omega (arith, lt)))

all_entries : (most : ℕ) → most ≤ 65535 → Entries most 0 (args_readers most)
all_entries most low = (
  made_entry most 0 signed_at PushNum bytes_of_signed (λ v. number_fits v ≡ true) signed_laws (λ a. refl) (λ a f. (refl, f)),
  (
    made_entry most 1 (type_at most) PushAtom (be 2) (λ k. k ≤ most) (type_laws most low) (λ a. refl) (λ a f. (refl, f)),
    (
      made_entry most 2 any_byte LoadLocal (be 1) IsByte any_laws (λ a. refl) (λ a f. (refl, f)),
      (
        made_entry most 3 any_byte StoreLocal (be 1) IsByte any_laws (λ a. refl) (λ a f. (refl, f)),
        (
          plain_entry most 4 Pop refl tt refl,
          (
            made_entry most 5 field_at (λ (x : Field). LoadField x.first x.width x.kind) of_field FieldFits field_laws (λ a. refl) (λ a f. (refl, f)),
            (
              made_entry most 6 field_at (λ (x : Field). StoreField x.first x.width x.kind) of_field FieldFits field_laws (λ a. refl) (λ a f. (refl, f)),
              (
                made_entry most 7 part_at (λ (x : ℕ × Field). LoadPart x.0 x.1.first x.1.width x.1.kind) (λ (p : ℕ × Field). be 1 p.0 ++ of_field p.1) (λ (p : ℕ × Field). IsByte p.0 × FieldFits p.1) part_laws (λ a. refl) (λ a f. (refl, f)),
                (
                  made_entry most 8 part_at (λ (x : ℕ × Field). StorePart x.0 x.1.first x.1.width x.1.kind) (λ (p : ℕ × Field). be 1 p.0 ++ of_field p.1) (λ (p : ℕ × Field). IsByte p.0 × FieldFits p.1) part_laws (λ a. refl) (λ a f. (refl, f)),
                  (
                    plain_entry most 9 LoadSelf refl tt refl,
                    (
                      plain_entry most 10 LoadSite refl tt refl,
                      (
                        plain_entry most 11 StoreSite refl tt refl,
                        (
                          plain_entry most 12 Swap refl tt refl,
                          (
                            plain_entry most 13 IsLive refl tt refl,
                            (
                              plain_entry most 14 IsEmpty refl tt refl,
                              (
                                plain_entry most 15 RandCreate refl tt refl,
                                (
                                  plain_entry most 16 RandOneIn refl tt refl,
                                  (
                                    made_entry most 17 (type_at 65535) IsKind (be 2) (λ k. k ≤ 65535) (type_laws 65535 (omega arith)) (λ a. refl) (λ a f. (refl, omega (arith, f))),
                                    (
                                      plain_entry most 18 AddI refl tt refl,
                                      (
                                        plain_entry most 19 SubI refl tt refl,
                                        (
                                          plain_entry most 20 MulI refl tt refl,
                                          (
                                            plain_entry most 21 DivI refl tt refl,
                                            (
                                              plain_entry most 22 RemI refl tt refl,
                                              (
                                                plain_entry most 23 AddU refl tt refl,
                                                (
                                                  plain_entry most 24 SubU refl tt refl,
                                                  (
                                                    plain_entry most 25 MulU refl tt refl,
                                                    (
                                                      plain_entry most 26 DivU refl tt refl,
                                                      (
                                                        plain_entry most 27 RemU refl tt refl,
                                                        (
                                                          plain_entry most 28 NegI refl tt refl,
                                                          (
                                                            plain_entry most 29 And refl tt refl,
                                                            (
                                                              plain_entry most 30 Or refl tt refl,
                                                              (
                                                                plain_entry most 31 Xor refl tt refl,
                                                                (
                                                                  made_entry most 32 width_at NotW (be 1) (λ w. (1 ≤ w) × (w ≤ 64)) width_laws (λ a. refl) (λ a f. (refl, f)),
                                                                  (
                                                                    made_entry most 33 width_at Shl (be 1) (λ w. (1 ≤ w) × (w ≤ 64)) width_laws (λ a. refl) (λ a f. (refl, f)),
                                                                    (
                                                                      plain_entry most 34 Shr refl tt refl,
                                                                      (
                                                                        made_entry most 35 fit_at (λ (x : Kind × ℕ). Fit x.0 x.1) (λ (p : Kind × ℕ). kind_bytes p.0 ++ be 1 p.1) (λ (p : Kind × ℕ). AnyKind p.0 × IsByte p.1) fit_laws (λ a. refl) (λ a f. (refl, f.1)),
                                                                        (
                                                                          plain_entry most 36 NotB refl tt refl,
                                                                          (
                                                                            plain_entry most 37 Eq refl tt refl,
                                                                            (
                                                                              plain_entry most 38 Ne refl tt refl,
                                                                              (
                                                                                plain_entry most 39 Lt refl tt refl,
                                                                                (
                                                                                  plain_entry most 40 Le refl tt refl,
                                                                                  (
                                                                                    plain_entry most 41 Gt refl tt refl,
                                                                                    (
                                                                                      plain_entry most 42 Ge refl tt refl,
                                                                                      (
                                                                                        made_entry most 43 place_at Jump (be 4) IsPlace place_laws (λ a. refl) (λ a f. (refl, f)),
                                                                                        (
                                                                                          made_entry most 44 place_at JumpFalse (be 4) IsPlace place_laws (λ a. refl) (λ a f. (refl, f)),
                                                                                          (
                                                                                            plain_entry most 45 Turn refl tt refl,
                                                                                            (
                                                                                              made_entry most 46 place_at Call (be 4) IsPlace place_laws (λ a. refl) (λ a f. (refl, f)),
                                                                                              (
                                                                                                plain_entry most 47 Return refl tt refl,
                                                                                                (
                                                                                                  plain_entry most 48 ReturnVoid refl tt refl,
                                                                                                  (
                                                                                                    plain_entry most 49 AddL refl tt refl,
                                                                                                    (
                                                                                                      plain_entry most 50 SubL refl tt refl,
                                                                                                      (
                                                                                                        plain_entry most 51 MulL refl tt refl,
                                                                                                        (
                                                                                                          plain_entry most 52 DivL refl tt refl,
                                                                                                          (
                                                                                                            plain_entry most 53 RemL refl tt refl,
                                                                                                            (
                                                                                                              plain_entry most 54 AddV refl tt refl,
                                                                                                              (
                                                                                                                plain_entry most 55 SubV refl tt refl,
                                                                                                                (
                                                                                                                  plain_entry most 56 MulV refl tt refl,
                                                                                                                  (
                                                                                                                    plain_entry most 57 DivV refl tt refl,
                                                                                                                    (
                                                                                                                      plain_entry most 58 RemV refl tt refl,
                                                                                                                      (
                                                                                                                        plain_entry most 59 NegL refl tt refl,
                                                                                                                        (
                                                                                                                          plain_entry most 60 Dup refl tt refl,
                                                                                                                          (
                                                                                                                            made_entry most 61 array_at (λ (x : Field × ℕ). LoadFieldAt x.0.first x.0.width x.0.kind x.1) (λ (p : Field × ℕ). of_field p.0 ++ be 1 p.1) (λ (p : Field × ℕ). FieldFits p.0 × IsByte p.1) array_laws (λ a. refl) (λ a f. (refl, f)),
                                                                                                                            (
                                                                                                                              made_entry most 62 array_at (λ (x : Field × ℕ). StoreFieldAt x.0.first x.0.width x.0.kind x.1) (λ (p : Field × ℕ). of_field p.0 ++ be 1 p.1) (λ (p : Field × ℕ). FieldFits p.0 × IsByte p.1) array_laws (λ a. refl) (λ a f. (refl, f)),
                                                                                                                              (
                                                                                                                                made_entry most 63 part_array_at (λ (x : ℕ × (Field × ℕ)). LoadPartAt x.0 x.1.0.first x.1.0.width x.1.0.kind x.1.1) (λ (p : ℕ × (Field × ℕ)). be 1 p.0 ++ (of_field p.1.0 ++ be 1 p.1.1)) (λ (p : ℕ × (Field × ℕ)). IsByte p.0 × (FieldFits p.1.0 × IsByte p.1.1)) part_array_laws (λ a. refl) (λ a f. (refl, f)),
                                                                                                                                (
                                                                                                                                  made_entry most 64 part_array_at (λ (x : ℕ × (Field × ℕ)). StorePartAt x.0 x.1.0.first x.1.0.width x.1.0.kind x.1.1) (λ (p : ℕ × (Field × ℕ)). be 1 p.0 ++ (of_field p.1.0 ++ be 1 p.1.1)) (λ (p : ℕ × (Field × ℕ)). IsByte p.0 × (FieldFits p.1.0 × IsByte p.1.1)) part_array_laws (λ a. refl) (λ a f. (refl, f)),
                                                                                                                                  tt,
                                                                                                                                ),
                                                                                                                              ),
                                                                                                                            ),
                                                                                                                          ),
                                                                                                                        ),
                                                                                                                      ),
                                                                                                                    ),
                                                                                                                  ),
                                                                                                                ),
                                                                                                              ),
                                                                                                            ),
                                                                                                          ),
                                                                                                        ),
                                                                                                      ),
                                                                                                    ),
                                                                                                  ),
                                                                                                ),
                                                                                              ),
                                                                                            ),
                                                                                          ),
                                                                                        ),
                                                                                      ),
                                                                                    ),
                                                                                  ),
                                                                                ),
                                                                              ),
                                                                            ),
                                                                          ),
                                                                        ),
                                                                      ),
                                                                    ),
                                                                  ),
                                                                ),
                                                              ),
                                                            ),
                                                          ),
                                                        ),
                                                      ),
                                                    ),
                                                  ),
                                                ),
                                              ),
                                            ),
                                          ),
                                        ),
                                      ),
                                    ),
                                  ),
                                ),
                              ),
                            ),
                          ),
                        ),
                      ),
                    ),
                  ),
                ),
              ),
            ),
          ),
        ),
      ),
    ),
  ),
)

made_again : {A : Type 0} (r : Reader A) (make : A → Instr) (sp : A → List ℕ) (F : A → Type 0) → Laws r sp F → (a : A) (rest : List ℕ) → F a → map_reader r make (sp a ++ rest) ≡ Ok (make a, rest)
made_again {A = A} r make sp F l a rest f = ap (λ (o : Result (A × List ℕ) ℕ). o >>= λ x. Ok (make x.0, x.1)) (l.again a rest f)

-- the arguments of an instruction are read again
again : (most : ℕ) → most ≤ 65535 → (i : Instr) (rest : List ℕ) → IsInstr most i → args_at most (opcode i) (args_bytes i ++ rest) ≡ Ok (i, rest)
unfolding args_at
again most low (PushNum v) rest h = made_again signed_at PushNum bytes_of_signed (λ v. number_fits v ≡ true) signed_laws v rest h
again most low (PushAtom k) rest h = made_again (type_at most) PushAtom (be 2) (λ k. k ≤ most) (type_laws most low) k rest h
again most low (LoadLocal s) rest h = made_again any_byte LoadLocal (be 1) IsByte any_laws s rest h
again most low (StoreLocal s) rest h = made_again any_byte StoreLocal (be 1) IsByte any_laws s rest h
again most low Pop rest h = refl
again most low (LoadField f w k) rest h = made_again field_at (λ (x : Field). LoadField x.first x.width x.kind) of_field FieldFits field_laws (record { first = f; width = w; kind = k }) rest h
again most low (StoreField f w k) rest h = made_again field_at (λ (x : Field). StoreField x.first x.width x.kind) of_field FieldFits field_laws (record { first = f; width = w; kind = k }) rest h
again most low (LoadPart s f w k) rest h = made_again part_at (λ (x : ℕ × Field). LoadPart x.0 x.1.first x.1.width x.1.kind) (λ (p : ℕ × Field). be 1 p.0 ++ of_field p.1) (λ (p : ℕ × Field). IsByte p.0 × FieldFits p.1) part_laws (s, record { first = f; width = w; kind = k }) rest h
again most low (StorePart s f w k) rest h = made_again part_at (λ (x : ℕ × Field). StorePart x.0 x.1.first x.1.width x.1.kind) (λ (p : ℕ × Field). be 1 p.0 ++ of_field p.1) (λ (p : ℕ × Field). IsByte p.0 × FieldFits p.1) part_laws (s, record { first = f; width = w; kind = k }) rest h
again most low LoadSelf rest h = refl
again most low LoadSite rest h = refl
again most low StoreSite rest h = refl
again most low Swap rest h = refl
again most low IsLive rest h = refl
again most low IsEmpty rest h = refl
again most low RandCreate rest h = refl
again most low RandOneIn rest h = refl
again most low (IsKind k) rest h = made_again (type_at 65535) IsKind (be 2) (λ k. k ≤ 65535) (type_laws 65535 (omega arith)) k rest (omega (arith, h))
again most low AddI rest h = refl
again most low SubI rest h = refl
again most low MulI rest h = refl
again most low DivI rest h = refl
again most low RemI rest h = refl
again most low AddU rest h = refl
again most low SubU rest h = refl
again most low MulU rest h = refl
again most low DivU rest h = refl
again most low RemU rest h = refl
again most low NegI rest h = refl
again most low And rest h = refl
again most low Or rest h = refl
again most low Xor rest h = refl
again most low (NotW w) rest h = made_again width_at NotW (be 1) (λ w. (1 ≤ w) × (w ≤ 64)) width_laws w rest h
again most low (Shl w) rest h = made_again width_at Shl (be 1) (λ w. (1 ≤ w) × (w ≤ 64)) width_laws w rest h
again most low Shr rest h = refl
again most low (Fit k w) rest h = made_again fit_at (λ (x : Kind × ℕ). Fit x.0 x.1) (λ (p : Kind × ℕ). kind_bytes p.0 ++ be 1 p.1) (λ (p : Kind × ℕ). AnyKind p.0 × IsByte p.1) fit_laws (k, w) rest (tt, h)
again most low NotB rest h = refl
again most low Eq rest h = refl
again most low Ne rest h = refl
again most low Lt rest h = refl
again most low Le rest h = refl
again most low Gt rest h = refl
again most low Ge rest h = refl
again most low (Jump p) rest h = made_again place_at Jump (be 4) IsPlace place_laws p rest h
again most low (JumpFalse p) rest h = made_again place_at JumpFalse (be 4) IsPlace place_laws p rest h
again most low Turn rest h = refl
again most low (Call p) rest h = made_again place_at Call (be 4) IsPlace place_laws p rest h
again most low Return rest h = refl
again most low ReturnVoid rest h = refl
again most low AddL rest h = refl
again most low SubL rest h = refl
again most low MulL rest h = refl
again most low DivL rest h = refl
again most low RemL rest h = refl
again most low AddV rest h = refl
again most low SubV rest h = refl
again most low MulV rest h = refl
again most low DivV rest h = refl
again most low RemV rest h = refl
again most low NegL rest h = refl
again most low Dup rest h = refl
again most low (LoadFieldAt f w k n) rest h = made_again array_at (λ (x : Field × ℕ). LoadFieldAt x.0.first x.0.width x.0.kind x.1) (λ (p : Field × ℕ). of_field p.0 ++ be 1 p.1) (λ (p : Field × ℕ). FieldFits p.0 × IsByte p.1) array_laws (record { first = f; width = w; kind = k }, n) rest h
again most low (StoreFieldAt f w k n) rest h = made_again array_at (λ (x : Field × ℕ). StoreFieldAt x.0.first x.0.width x.0.kind x.1) (λ (p : Field × ℕ). of_field p.0 ++ be 1 p.1) (λ (p : Field × ℕ). FieldFits p.0 × IsByte p.1) array_laws (record { first = f; width = w; kind = k }, n) rest h
again most low (LoadPartAt s f w k n) rest h = made_again part_array_at (λ (x : ℕ × (Field × ℕ)). LoadPartAt x.0 x.1.0.first x.1.0.width x.1.0.kind x.1.1) (λ (p : ℕ × (Field × ℕ)). be 1 p.0 ++ (of_field p.1.0 ++ be 1 p.1.1)) (λ (p : ℕ × (Field × ℕ)). IsByte p.0 × (FieldFits p.1.0 × IsByte p.1.1)) part_array_laws (s, (record { first = f; width = w; kind = k }, n)) rest h
again most low (StorePartAt s f w k n) rest h = made_again part_array_at (λ (x : ℕ × (Field × ℕ)). StorePartAt x.0 x.1.0.first x.1.0.width x.1.0.kind x.1.1) (λ (p : ℕ × (Field × ℕ)). be 1 p.0 ++ (of_field p.1.0 ++ be 1 p.1.1)) (λ (p : ℕ × (Field × ℕ)). IsByte p.0 × (FieldFits p.1.0 × IsByte p.1.1)) part_array_laws (s, (record { first = f; width = w; kind = k }, n)) rest h

args_are : (i : Instr) → IsBytes (args_bytes i)
args_are (PushNum v) = signed_bytes v
args_are (PushAtom k) = be_bytes 2 k
args_are (LoadLocal s) = be_bytes 1 s
args_are (StoreLocal s) = be_bytes 1 s
args_are (LoadField f w k) = field_are f w k
args_are (StoreField f w k) = field_are f w k
args_are (LoadPart s f w k) = bytes_after (be 1 s) (field_bytes f w k) (be_bytes 1 s) (field_are f w k)
args_are (StorePart s f w k) = bytes_after (be 1 s) (field_bytes f w k) (be_bytes 1 s) (field_are f w k)
args_are (IsKind k) = be_bytes 2 k
args_are (NotW w) = be_bytes 1 w
args_are (Shl w) = be_bytes 1 w
args_are (Fit k w) = bytes_after (be 1 (kind_code k)) (be 1 w) (be_bytes 1 (kind_code k)) (be_bytes 1 w)
args_are (Jump p) = be_bytes 4 p
args_are (JumpFalse p) = be_bytes 4 p
args_are (Call p) = be_bytes 4 p
args_are (LoadFieldAt f w k n) = array_are f w k n
args_are (StoreFieldAt f w k n) = array_are f w k n
args_are (LoadPartAt s f w k n) = bytes_after (be 1 s) (array_bytes f w k n) (be_bytes 1 s) (array_are f w k n)
args_are (StorePartAt s f w k n) = bytes_after (be 1 s) (array_bytes f w k n) (be_bytes 1 s) (array_are f w k n)
args_are i = no_bytes

opcode_most : (i : Instr) → opcode i ≤ 64
opcode_most (PushNum v) = omega arith
opcode_most (PushAtom k) = omega arith
opcode_most (LoadLocal s) = omega arith
opcode_most (StoreLocal s) = omega arith
opcode_most Pop = omega arith
opcode_most (LoadField f w k) = omega arith
opcode_most (StoreField f w k) = omega arith
opcode_most (LoadPart s f w k) = omega arith
opcode_most (StorePart s f w k) = omega arith
opcode_most LoadSelf = omega arith
opcode_most LoadSite = omega arith
opcode_most StoreSite = omega arith
opcode_most Swap = omega arith
opcode_most IsLive = omega arith
opcode_most IsEmpty = omega arith
opcode_most RandCreate = omega arith
opcode_most RandOneIn = omega arith
opcode_most (IsKind k) = omega arith
opcode_most AddI = omega arith
opcode_most SubI = omega arith
opcode_most MulI = omega arith
opcode_most DivI = omega arith
opcode_most RemI = omega arith
opcode_most AddU = omega arith
opcode_most SubU = omega arith
opcode_most MulU = omega arith
opcode_most DivU = omega arith
opcode_most RemU = omega arith
opcode_most NegI = omega arith
opcode_most And = omega arith
opcode_most Or = omega arith
opcode_most Xor = omega arith
opcode_most (NotW w) = omega arith
opcode_most (Shl w) = omega arith
opcode_most Shr = omega arith
opcode_most (Fit k w) = omega arith
opcode_most NotB = omega arith
opcode_most Eq = omega arith
opcode_most Ne = omega arith
opcode_most Lt = omega arith
opcode_most Le = omega arith
opcode_most Gt = omega arith
opcode_most Ge = omega arith
opcode_most (Jump p) = omega arith
opcode_most (JumpFalse p) = omega arith
opcode_most Turn = omega arith
opcode_most (Call p) = omega arith
opcode_most Return = omega arith
opcode_most ReturnVoid = omega arith
opcode_most AddL = omega arith
opcode_most SubL = omega arith
opcode_most MulL = omega arith
opcode_most DivL = omega arith
opcode_most RemL = omega arith
opcode_most AddV = omega arith
opcode_most SubV = omega arith
opcode_most MulV = omega arith
opcode_most DivV = omega arith
opcode_most RemV = omega arith
opcode_most NegL = omega arith
opcode_most Dup = omega arith
opcode_most (LoadFieldAt f w k n) = omega arith
opcode_most (StoreFieldAt f w k n) = omega arith
opcode_most (LoadPartAt s f w k n) = omega arith
opcode_most (StorePartAt s f w k n) = omega arith

args_laws : (most : ℕ) → most ≤ 65535 → (code : ℕ) → code ≤ 64 → Laws (args_at most code) args_bytes (λ i. (opcode i ≡ code) × IsInstr most i)
unfolding args_at
args_laws most low code h =
    let e = entry_at most 0 (args_readers most) (plain Pop) (all_entries most low) code (omega (arith, h)) in
    let r : Reader Instr = get_or (args_readers most) code (plain Pop) in
    same_laws r args_bytes args_bytes e.form (λ i. (opcode i ≡ code) × IsInstr most i) e.laws
    (λ i f. let m = e.means i f in (m.0 ∙ (let z : 0 + code ≡ code = omega arith in z), m.1))
    (λ i f. (e.laws.got (args_bytes i ++ []) i [] (subst IsBytes (sym (append-nil (args_bytes i))) (args_are i)) (ap (λ k. args_at most k (args_bytes i ++ [])) (sym f.0) ∙ again most low i [] f.1)).0)
    (λ i f. refl)

pub instr_laws : (most : ℕ) → most ≤ 65535 → Laws (instr_at most) instr_bytes (IsInstr most)
unfolding instr_at
instr_laws most low =
    bind_laws ℕ Instr (number_at 1 0 64) (λ code. args_at most code) (be 1) (λ n. (0 ≤ n) × (n ≤ 64)) (λ code. args_bytes) (λ code i. (opcode i ≡ code) × IsInstr most i) instr_bytes (IsInstr most)
    (record {
      join = λ code i f1 f2. (f2.1, ap (λ k. be 1 k ++ args_bytes i) f2.0);
      split = λ i h. (opcode i, (omega arith, opcode_most i), (refl, h));
    }) (number_whole 1 0 64 (omega arith) (omega arith)) (λ code f. args_laws most low code f.1)
