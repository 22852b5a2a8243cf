-- Each place of a piece that fits has its kinds, leads where the pass wants it, and is reached.
use Rattle.std.proofs.Common.{◌≡◌, ℕ, suc, ◌+◌, ◌<◌, ◌≤◌, inl, inr, ⊎_elim, List, [], ◌∷◌, length, Option, Some, None, refl, sym, ap, ◌∙◌, subst, arith, add-one, Bool, true, false, take, drop}
use Rattle.std.specs.Prelude.{slice_get, nat_lt, nat_le, ◌&&◌, if◌then◌else◌, is_none, reverse}
use Rattle.std.proofs.lemmas.Bool.{cases_lt, lt-ltb, le-ltb, le-leb}
use Rattle.stack_code.proofs.Typed.{is_goto, not_goto}
use Rattle.stack_code.specs.Sorts.{Sort, Goto, GotoFalse, Take, Enter, GiveBack, Leave, sort}
use Rattle.stack_code.specs.Machine.{FunctionValue, CodeValue}
use Rattle.stack_code.specs.Valid.{Kinds, same_kinds, after, after_call, answer_on, args_fit, Around, around, exits, Exits, falls_exit, jump_exit, fork_exit, end_exit, jump_fits, forward_fits, back_fits, back_of, back_by, is_turn, answer_found, is_nothing}
use Rattle.stack_code.specs.declared.instr.Operand.TheVariants.{Number, Atom}
use Rattle.stack_code.specs.declared.instr.Instr.{Instr}
use Rattle.stack_code.specs.declared.instr.Instr.TheVariants.{Jump, JumpFalse, Turn, Call, Return, ReturnVoid}
use Rattle.stack_code.proofs.Accepts.{Reached, ex_of, ex_by}
use Rattle.code_gen.specs.Pieces.{Key, Piece, none, seq, plain, asks, pick, only, loop, ever, out, next, gives, leaves, size, key_number}
use Rattle.code_gen.specs.Kinds.{Setting, after_ask, ends, IsEmpty, Fits}
use Rattle.code_gen.proofs.Places.{At, HasPiece, Here, HasKinds}

plain_goto : (slots ks ls : Kinds) (so : Sort) → after slots so ks ≡ Some ls → is_goto so ≡ false
plain_goto slots ks ls (Goto p) e = cc
plain_goto slots ks ls so e = refl

-- a plain instruction goes on
exits_plain : (a : Around) (p : ℕ) (so : Sort) (ks ls : Kinds) → after a.function.slots so ks ≡ Some ls → exits a p so ks ≡ falls_exit (Some ls)
exits_plain a p (Goto q) ks ls e = cc
exits_plain a p (GotoFalse q) ks ls e = cc
exits_plain a p Take ks ls e = cc
exits_plain a p (Enter f) ks ls e = cc
exits_plain a p GiveBack ks ls e = cc
exits_plain a p Leave ks ls e = cc
exits_plain a p so ks ls e = ap falls_exit e

pub free_at : (is : List Instr) (p : ℕ) (i : Instr) → At is p i → back_by p (Some i) ≡ None → back_of is p ≡ None
unfolding back_of
free_at is p i at e = ap (back_by p) at ∙ e

forward_free : (is : List Instr) (p q : ℕ) → At is p (Jump q) → p < q → back_of is p ≡ None
forward_free is p q at lt = free_at is p (Jump q) at (ap (λ (b : Bool). if b then Some q else None) (le-ltb q p (omega arith)))

forward_yes : (a : Around) (p q : ℕ) → p < q → q < a.end → back_of a.code.instrs q ≡ None → forward_fits a p q ≡ true
forward_yes a p q lt high free =
    ap (λ (b : Bool). b && nat_lt q a.end && is_none (back_of a.code.instrs q)) (lt-ltb p q lt)
    ∙ ap (λ (b : Bool). b && is_none (back_of a.code.instrs q)) (lt-ltb q a.end high)
    ∙ ap is_none free

back_yes : (a : Around) (p q : ℕ) → q < suc p → a.function.first ≤ q → At a.code.instrs p Turn → back_of a.code.instrs q ≡ None → back_fits a (suc p) q ≡ true
back_yes a p q lt low at free =
    ap (λ (b : Bool). b && nat_le a.function.first q && is_turn (slice_get a.code.instrs p) && is_none (back_of a.code.instrs q)) (lt-ltb q (suc p) lt)
    ∙ ap (λ (b : Bool). b && is_turn (slice_get a.code.instrs p) && is_none (back_of a.code.instrs q)) (le-leb a.function.first q low)
    ∙ ap (λ o. is_turn o && is_none (back_of a.code.instrs q)) at
    ∙ ap is_none free

jump_yes : (a : Around) (p q : ℕ) → p < q → forward_fits a p q ≡ true → jump_fits a p q ≡ true
jump_yes a p q lt e = ap (λ (b : Bool). if b then forward_fits a p q else back_fits a p q) (lt-ltb p q lt) ∙ e

jump_back_yes : (a : Around) (p q : ℕ) → q ≤ p → back_fits a p q ≡ true → jump_fits a p q ≡ true
jump_back_yes a p q le e = ap (λ (b : Bool). if b then forward_fits a p q else back_fits a p q) (le-ltb p q le) ∙ e

empty_is : (ls : Kinds) → IsEmpty ls → [] ≡ ls
empty_is [] e = refl
empty_is (l ∷ ls) e = absurd e

module _ (c : CodeValue) (g : FunctionValue) (end : ℕ) (ks : List Key) (n : Setting) (shape : ℕ → Kinds) where
  -- the function's head says what the setting says
  pub record Agrees : Type 0 where
    pub slots : g.slots ≡ n.slots
    pub answer : g.answer ≡ n.answer
    pub asked : (k : ℕ) (f : Key) → slice_get ks k ≡ Some f → (h : FunctionValue) × (slice_get c.functions k ≡ Some h) × (h.params ≡ length (n.drafts f).takes) × (take h.params h.slots ≡ (n.drafts f).takes) × (h.answer ≡ (n.drafts f).answer) × (h.params ≤ length h.slots)

  abbrev pub ex : ℕ → Kinds → Option Exits
  ex p ls = ex_of (around c g end) p ls

  -- what the pass wants of a place
  pub record FineAt (p : ℕ) : Type 0 where
    pub exit : Exits
    pub leads : ex p (shape p) ≡ Some exit
    pub falls : (k : Kinds) → exit.falls ≡ Some k → (k ≡ shape (suc p)) × (suc p < end)
    pub jumps : (j : ℕ × Kinds) → exit.jumps ≡ Some j → (j.1 ≡ shape j.0) × (j.0 < end)
    pub reached : Reached ex g.first shape p

  abbrev pub Fines : ℕ → ℕ → Type 0
  Fines p m = (r : ℕ) → p ≤ r → r < p + m → FineAt r

  -- a place that is jumped to, past these places
  pub record Target (p e : ℕ) : Type 0 where
    pub past : p ≤ e
    pub inside : e < end
    pub empty : shape e ≡ []
    pub free : back_of c.instrs e ≡ None

  target_from : (p q e : ℕ) → q ≤ p → Target p e → Target q e
  target_from p q e le t = record { past = omega (arith, t.past); inside = t.inside; empty = t.empty; free = t.free }

  fines_none : (p : ℕ) → Fines p 0
  fines_none p r lo hi = absurd (omega arith)

  pub fines_one : (p : ℕ) → FineAt p → Fines p 1
  fines_one p f r lo hi = let e : p ≡ r = omega arith in subst FineAt e f

  pub fines_join : (p m l : ℕ) → Fines p m → Fines (p + m) l → Fines p (m + l)
  fines_join p m l a b r lo hi = ⊎_elim (λ lt. a r lo lt) (λ le. b r le (omega arith)) (cases_lt r (p + m))

  fines_long : (p l m : ℕ) → l ≡ m → Fines p l → Fines p m
  fines_long p l m e f = subst (λ m. Fines p m) e f

  pub fines_head : (p m : ℕ) → FineAt p → Fines (p + 1) m → Fines p (suc m)
  fines_head p m a b = let e : 1 + m ≡ suc m = omega arith in fines_long p (1 + m) (suc m) e (fines_join p 1 m (fines_one p a) b)

  -- an instruction that stands at a place
  pub leads_by : (p : ℕ) (ls : Kinds) (i : Instr) (x : Option Exits) → At c.instrs p i → args_fit i ≡ true → Here shape p ls → exits (around c g end) p (sort i) ls ≡ x → ex p (shape p) ≡ x
  leads_by p ls i x at fit here e =
      ap (ex p) here.0
      ∙ ap (ex_by (around c g end) p ls) at
      ∙ ap (λ (b : Bool). if b && nat_le (length ls) 512 then exits (around c g end) p (sort i) ls else None) fit
      ∙ ap (λ (b : Bool). if b then exits (around c g end) p (sort i) ls else None) (le-leb (length ls) 512 here.1)
      ∙ e

  pub fine_falls : (p : ℕ) (ls : Kinds) → ex p (shape p) ≡ falls_exit (Some ls) → shape (p + 1) ≡ ls → p + 1 < end → Reached ex g.first shape p → FineAt p
  fine_falls p ls e nx lt r = record {
    exit = record { falls = Some ls; jumps = None };
    leads = e;
    falls = λ k f. (let s : ls ≡ k = cc in sym s ∙ sym nx ∙ ap shape (add-one p), omega arith);
    jumps = λ j f. absurd (cc);
    reached = r;
  }

  pub reached_falls : (p : ℕ) (ls : Kinds) → ex p (shape p) ≡ falls_exit (Some ls) → g.first ≤ p → Reached ex g.first shape (p + 1)
  reached_falls p ls e low = inr (inl (p, sym (add-one p), low, record { falls = Some ls; jumps = None }, e, λ f. absurd (cc)))

  pub fine_jumps : (p q : ℕ) (ls : Kinds) → ex p (shape p) ≡ jump_exit true q ls → shape q ≡ ls → q < end → Reached ex g.first shape p → FineAt p
  fine_jumps p q ls e there lt r = record {
    exit = record { falls = None; jumps = Some (q, ls) };
    leads = e;
    falls = λ k f. absurd (cc);
    jumps = λ j f. let s : (q, ls) ≡ j = cc in subst (λ (j : ℕ × Kinds). (j.1 ≡ shape j.0) × (j.0 < end)) s (sym there, lt);
    reached = r;
  }

  fine_forks : (p q : ℕ) (ls : Kinds) → ex p (shape p) ≡ fork_exit true q (Some ls) → shape (p + 1) ≡ ls → p + 1 < end → shape q ≡ ls → q < end → Reached ex g.first shape p → FineAt p
  fine_forks p q ls e nx high there lt r = record {
    exit = record { falls = Some ls; jumps = Some (q, ls) };
    leads = e;
    falls = λ k f. (let s : ls ≡ k = cc in sym s ∙ sym nx ∙ ap shape (add-one p), omega arith);
    jumps = λ j f. let s : (q, ls) ≡ j = cc in subst (λ (j : ℕ × Kinds). (j.1 ≡ shape j.0) × (j.0 < end)) s (sym there, lt);
    reached = r;
  }

  reached_forks : (p q : ℕ) (ls : Kinds) → ex p (shape p) ≡ fork_exit true q (Some ls) → g.first ≤ p → Reached ex g.first shape (p + 1)
  reached_forks p q ls e low = inr (inl (p, sym (add-one p), low, record { falls = Some ls; jumps = Some (q, ls) }, e, λ f. absurd (cc)))

  reached_jumped : (p q : ℕ) (ls : Kinds) → ex p (shape p) ≡ fork_exit true q (Some ls) → g.first ≤ p → p < q → Reached ex g.first shape q
  reached_jumped p q ls e low lt = inr (inr (p, lt, low, record { falls = Some ls; jumps = Some (q, ls) }, e, (q, ls), refl, refl))

  pub fine_ends : (p : ℕ) → ex p (shape p) ≡ end_exit true → Reached ex g.first shape p → FineAt p
  fine_ends p e r = record { exit = record { falls = None; jumps = None }; leads = e; falls = λ k f. absurd (cc); jumps = λ j f. absurd (cc); reached = r }

  -- the first place of a piece
  pub begins : (q : Piece) (p e k : ℕ) (ls : Kinds) → HasPiece c.instrs ks p e k q → HasKinds n shape p q ls → Fits n q ls → shape (p + size q) ≡ ends n q ls → back_of c.instrs (p + size q) ≡ None → p + size q ≤ e → p + size q ≤ k → (shape p ≡ ls) × (back_of c.instrs p ≡ None)
  begins none p e k ls h s f z v x y = let w : p + 0 ≡ p = omega arith in (subst (λ p. shape p ≡ ls) w z, subst (λ p. back_of c.instrs p ≡ None) w v)
  begins (seq a b) p e k ls h s f z v x y =
      let w : p + (size a + size b) ≡ p + size a + size b = omega arith in
      let r = begins b (p + size a) e k (ends n a ls) h.1 s.1 f.1 (subst (λ p. shape p ≡ ends n b (ends n a ls)) w z) (subst (λ p. back_of c.instrs p ≡ None) w v) (omega arith) (omega arith) in
      begins a p e k ls h.0 s.0 f.0 r.0 r.1 (omega arith) (omega arith)
  begins (plain i) p e k ls h s f z v x y = (s.0, free_at c.instrs p i h (not_goto i p (plain_goto n.slots ls (ends n (plain i) ls) (sort i) f.1)))
  begins (asks f) p e k ls h s fits z v x y = (s.0, free_at c.instrs p _ h.0 refl)
  begins (pick a b) p e k ls h s f z v x y = (s.0.0, free_at c.instrs p _ h.0 refl)
  begins (only a) p e k ls h s f z v x y = (s.0.0, free_at c.instrs p _ h.0 refl)
  begins (loop t a b) p e k [] h s f z v x y = begins t p e k [] h.0 s.0 f.1 s.1.0 (free_at c.instrs (p + size t) _ h.1 refl) (omega arith) (omega arith)
  begins (loop t a b) p e k (l ∷ ls) h s f z v x y = absurd f.0
  begins (ever a b) p e k [] h s f z v x y =
      let r = begins b (p + size a) e k [] h.1 s.1 f.3 (s.2.0 ∙ sym f.4) (free_at c.instrs (p + size a + size b) _ h.2 refl) (omega arith) (omega arith) in
      begins a p (p + size a + size b + 2) (p + size a) [] h.0 s.0 f.1 (r.0 ∙ sym f.2) r.1 (omega arith) (omega arith)
  begins (ever a b) p e k (l ∷ ls) h s f z v x y = absurd f.0
  begins out p e k ls h s f z v x y = (s.0, forward_free c.instrs p e h (omega arith))
  begins next p e k ls h s f z v x y = (s.0, forward_free c.instrs p k h (omega arith))
  begins gives p e k ls h s f z v x y = (s.0, free_at c.instrs p _ h refl)
  begins leaves p e k ls h s f z v x y = (s.0, free_at c.instrs p _ h refl)

  module _ (ag : Agrees) where
    pub plain_leads : (p : ℕ) (ls : Kinds) (i : Instr) → At c.instrs p i → Fits n (plain i) ls → Here shape p ls → ex p (shape p) ≡ falls_exit (Some (ends n (plain i) ls))
    plain_leads p ls i at f here = leads_by p ls i _ at f.0 here (exits_plain (around c g end) p (sort i) ls (ends n (plain i) ls) (ap (λ sl. after sl (sort i) ls) ag.slots ∙ f.1))

    ask_leads : (p : ℕ) (ls : Kinds) (f : Key) → At c.instrs p (Call (key_number ks f)) → slice_get ks (key_number ks f) ≡ Some f → Fits n (asks f) ls → Here shape p ls → ex p (shape p) ≡ falls_exit (Some (after_ask (n.drafts f) ls))
    ask_leads p ls f at is_f fit here =
        let s = n.drafts f in
        let h = ag.asked (key_number ks f) f is_f in
        let e : after_call (Some h.0) ls ≡ Some (after_ask s ls) =
        ap (λ (b : Bool). if b && same_kinds (reverse (take h.0.params ls)) (take h.0.params h.0.slots) then Some (answer_on h.0.answer (drop h.0.params ls)) else None) (le-leb h.0.params (length h.0.slots) h.5)
        ∙ ap (λ k. if same_kinds (reverse (take k ls)) (take h.0.params h.0.slots) then Some (answer_on h.0.answer (drop h.0.params ls)) else None) h.2
        ∙ ap (λ l. if same_kinds (reverse (take (length s.takes) ls)) l then Some (answer_on h.0.answer (drop h.0.params ls)) else None) h.3
        ∙ ap (λ (b : Bool). if b then Some (answer_on h.0.answer (drop h.0.params ls)) else None) fit.0
        ∙ ap (λ k. Some (answer_on h.0.answer (drop k ls))) h.2
        ∙ ap (λ r. Some (answer_on r (drop (length s.takes) ls))) h.4 in
        leads_by p ls (Call (key_number ks f)) _ at refl here (ap (λ o. falls_exit (after_call o ls)) h.1 ∙ ap falls_exit e)

    fork_leads : (p q : ℕ) (ls : Kinds) → At c.instrs p (JumpFalse q) → Here shape p (Number ∷ ls) → p < q → q < end → back_of c.instrs q ≡ None → ex p (shape p) ≡ fork_exit true q (Some ls)
    fork_leads p q ls at here lt high free = leads_by p (Number ∷ ls) (JumpFalse q) _ at refl here (ap (λ b. fork_exit b q (Some ls)) (forward_yes (around c g end) p q lt high free))

    jump_leads : (p q : ℕ) (ls : Kinds) → At c.instrs p (Jump q) → Here shape p ls → p < q → q < end → back_of c.instrs q ≡ None → ex p (shape p) ≡ jump_exit true q ls
    jump_leads p q ls at here lt high free = leads_by p ls (Jump q) _ at refl here (ap (λ b. jump_exit b q ls) (jump_yes (around c g end) p q lt (forward_yes (around c g end) p q lt high free)))

    turn_leads : (p : ℕ) (ls : Kinds) → At c.instrs p Turn → Here shape p ls → ex p (shape p) ≡ falls_exit (Some ls)
    turn_leads p ls at here = leads_by p ls Turn _ at refl here refl

    back_leads : (p q : ℕ) (ls : Kinds) → At c.instrs p Turn → At c.instrs (p + 1) (Jump q) → Here shape (p + 1) ls → q < p + 1 → g.first ≤ q → back_of c.instrs q ≡ None → ex (p + 1) (shape (p + 1)) ≡ jump_exit true q ls
    back_leads p q ls turn at here lt low free =
        let e : suc p ≡ p + 1 = sym (add-one p) in
        let y : back_fits (around c g end) (p + 1) q ≡ true = subst (λ r. back_fits (around c g end) r q ≡ true) e (back_yes (around c g end) p q (omega arith) low turn free) in
        leads_by (p + 1) ls (Jump q) _ at refl here (ap (λ b. jump_exit b q ls) (jump_back_yes (around c g end) (p + 1) q (omega arith) y))

    -- a Turn and a jump back
    turns_fine : (p q : ℕ) → At c.instrs p Turn → At c.instrs (p + 1) (Jump q) → Here shape p [] → Here shape (p + 1) [] → q ≤ p → g.first ≤ q → back_of c.instrs q ≡ None → shape q ≡ [] → p + 2 ≤ end → Fines p 2
    turns_fine p q turn at here there le low free e high =
        let r : Reached ex g.first shape p = inl here.0 in
        let r1 : Reached ex g.first shape (p + 1) = inl there.0 in
        let a = fine_falls p [] (turn_leads p [] turn here) there.0 (omega arith) r in
        let b = fine_jumps (p + 1) q [] (back_leads p q [] turn at there (omega arith) low free) e (omega arith) r1 in
        fines_head p 1 a (fines_one (p + 1) b)

    one_good : (p : ℕ) (ls : Kinds) → ex p (shape p) ≡ falls_exit (Some ls) → shape (p + 1) ≡ ls → p + 1 < end → g.first ≤ p → Reached ex g.first shape p → Fines p 1 × Reached ex g.first shape (p + 1)
    one_good p ls e nx lt low r = (fines_one p (fine_falls p ls e nx lt r), reached_falls p ls e low)

    pub piece_fine : (q : Piece) (p e k : ℕ) (ls : Kinds) → HasPiece c.instrs ks p e k q → HasKinds n shape p q ls → Fits n q ls → shape (p + size q) ≡ ends n q ls → back_of c.instrs (p + size q) ≡ None → g.first ≤ p → p + size q < end → Target (p + size q) e → Target (p + size q) k → Reached ex g.first shape p → Fines p (size q) × Reached ex g.first shape (p + size q)
    piece_fine none p e k ls h s f z v low high te tk r = let w : p ≡ p + 0 = omega arith in (fines_none p, subst (Reached ex g.first shape) w r)
    piece_fine (seq a b) p e k ls h s f z v low high te tk r =
        let w : p + (size a + size b) ≡ p + size a + size b = omega arith in
        let z1 = subst (λ p. shape p ≡ ends n b (ends n a ls)) w z in
        let v1 = subst (λ p. back_of c.instrs p ≡ None) w v in
        let te1 = target_from (p + (size a + size b)) (p + size a + size b) e (omega arith) te in
        let tk1 = target_from (p + (size a + size b)) (p + size a + size b) k (omega arith) tk in
        let m = begins b (p + size a) e k (ends n a ls) h.1 s.1 f.1 z1 v1 te1.past tk1.past in
        let x = piece_fine a p e k ls h.0 s.0 f.0 m.0 m.1 low (omega arith) (target_from (p + (size a + size b)) (p + size a) e (omega arith) te) (target_from (p + (size a + size b)) (p + size a) k (omega arith) tk) r in
        let y = piece_fine b (p + size a) e k (ends n a ls) h.1 s.1 f.1 z1 v1 (omega arith) (omega arith) te1 tk1 x.1 in
        (fines_join p (size a) (size b) x.0 y.0, subst (Reached ex g.first shape) (sym w) y.1)
    piece_fine (plain i) p e k ls h s f z v low high te tk r = one_good p (ends n (plain i) ls) (plain_leads p ls i h f s) z (omega arith) low r
    piece_fine (asks o) p e k ls h s f z v low high te tk r = one_good p (after_ask (n.drafts o) ls) (ask_leads p ls o h.0 h.1 f s) z (omega arith) low r
    piece_fine (pick a b) p e k [] h s f z v low high te tk r = absurd f
    piece_fine (pick a b) p e k (Atom ∷ ls) h s f z v low high te tk r = absurd f
    piece_fine (pick a b) p e k (Number ∷ ls) h s f z v low high te tk r =
        let q = p + 1 + size a in
        let end1 = q + 1 + size b in
        let w : p + suc (size a + suc (size b)) ≡ end1 = omega arith in
        let z1 = subst (λ p. shape p ≡ ends n b ls) w z in
        let v1 = subst (λ p. back_of c.instrs p ≡ None) w v in
        let te1 = target_from (p + suc (size a + suc (size b))) end1 e (omega arith) te in
        let tk1 = target_from (p + suc (size a + suc (size b))) end1 k (omega arith) tk in
        let mb = begins b (q + 1) e k ls h.3 s.3 f.1 z1 v1 te1.past tk1.past in
        let freeq = forward_free c.instrs q end1 h.2 (omega arith) in
        let ma = begins a (p + 1) e k ls h.1 s.1 f.0 s.2.0 freeq (omega (arith, te1.past)) (omega (arith, tk1.past)) in
        let l0 = fork_leads p (q + 1) ls h.0 s.0 (omega arith) (omega arith) mb.1 in
        let x0 = fine_forks p (q + 1) ls l0 ma.0 (omega arith) mb.0 (omega arith) r in
        let xa = piece_fine a (p + 1) e k ls h.1 s.1 f.0 s.2.0 freeq (omega arith) (omega arith) (target_from end1 q e (omega arith) te1) (target_from end1 q k (omega arith) tk1) (reached_forks p (q + 1) ls l0 low) in
        let l1 = jump_leads q end1 (ends n a ls) h.2 s.2 (omega arith) (omega arith) v1 in
        let x1 = fine_jumps q end1 (ends n a ls) l1 (z1 ∙ sym f.2) (omega arith) xa.1 in
        let xb = piece_fine b (q + 1) e k ls h.3 s.3 f.1 z1 v1 (omega arith) (omega arith) te1 tk1 (reached_jumped p (q + 1) ls l0 low (omega arith)) in
        (fines_head p (size a + suc (size b)) x0 (fines_join (p + 1) (size a) (suc (size b)) xa.0 (fines_head q (size b) x1 xb.0)), subst (Reached ex g.first shape) (sym w) xb.1)
    piece_fine (only a) p e k [] h s f z v low high te tk r = absurd f
    piece_fine (only a) p e k (Atom ∷ ls) h s f z v low high te tk r = absurd f
    piece_fine (only a) p e k (Number ∷ ls) h s f z v low high te tk r =
        let q = p + 1 + size a in
        let w : p + suc (size a) ≡ q = omega arith in
        let z1 = subst (λ p. shape p ≡ ls) w z in
        let v1 = subst (λ p. back_of c.instrs p ≡ None) w v in
        let te1 = target_from (p + suc (size a)) q e (omega arith) te in
        let tk1 = target_from (p + suc (size a)) q k (omega arith) tk in
        let ma = begins a (p + 1) e k ls h.1 s.1 f.0 (z1 ∙ sym f.1) v1 te1.past tk1.past in
        let l0 = fork_leads p q ls h.0 s.0 (omega arith) (omega arith) v1 in
        let x0 = fine_forks p q ls l0 ma.0 (omega arith) z1 (omega arith) r in
        let xa = piece_fine a (p + 1) e k ls h.1 s.1 f.0 (z1 ∙ sym f.1) v1 (omega arith) (omega arith) te1 tk1 (reached_forks p q ls l0 low) in
        (fines_head p (size a) x0 xa.0, subst (Reached ex g.first shape) (sym w) xa.1)
    piece_fine (loop t a b) p e k (l ∷ ls) h s f z v low high te tk r = absurd f.0
    piece_fine (loop t a b) p e k [] h s f z v low high te tk r =
        let q = p + size t in
        let qa = q + 1 in
        let qb = qa + size a in
        let qt = qb + size b in
        let past = qt + 2 in
        let w : p + (size t + suc (size a + (size b + 2))) ≡ past = omega arith in
        let z1 = subst (λ p. shape p ≡ []) w z in
        let v1 = subst (λ p. back_of c.instrs p ≡ None) w v in
        let te1 = target_from (p + (size t + suc (size a + (size b + 2)))) past e (omega arith) te in
        let tk1 = target_from (p + (size t + suc (size a + (size b + 2)))) past k (omega arith) tk in
        let freeq = free_at c.instrs q _ h.1 refl in
        let freet = free_at c.instrs qt _ h.4 refl in
        let mt = begins t p e k [] h.0 s.0 f.1 s.1.0 freeq (omega (arith, te1.past)) (omega (arith, tk1.past)) in
        let mb = begins b qb e k [] h.3 s.3 f.5 (s.4.0 ∙ sym f.6) freet (omega (arith, te1.past)) (omega (arith, tk1.past)) in
        let ma = begins a qa past qb [] h.2 s.2 f.3 (mb.0 ∙ sym f.4) mb.1 (omega arith) (omega arith) in
        let tpast : Target qb past = record { past = omega arith; inside = omega arith; empty = z1; free = v1 } in
        let tnext : Target qb qb = record { past = omega arith; inside = omega arith; empty = mb.0; free = mb.1 } in
        let xt = piece_fine t p e k [] h.0 s.0 f.1 s.1.0 freeq low (omega arith) (target_from past q e (omega arith) te1) (target_from past q k (omega arith) tk1) r in
        let here : Here shape q (Number ∷ []) = subst (Here shape q) f.2 s.1 in
        let l0 = fork_leads q past [] h.1 here (omega arith) (omega arith) v1 in
        let x0 = fine_forks q past [] l0 ma.0 (omega arith) z1 (omega arith) xt.1 in
        let xa = piece_fine a qa past qb [] h.2 s.2 f.3 (mb.0 ∙ sym f.4) mb.1 (omega arith) (omega arith) tpast tnext (inl ma.0) in
        let xb = piece_fine b qb e k [] h.3 s.3 f.5 (s.4.0 ∙ sym f.6) freet (omega arith) (omega arith) (target_from past qt e (omega arith) te1) (target_from past qt k (omega arith) tk1) (inl mb.0) in
        let xl = turns_fine qt p h.4 h.5 s.4 s.5 (omega arith) low mt.1 mt.0 (omega arith) in
        (fines_join p (size t) (suc (size a + (size b + 2))) xt.0 (fines_head q (size a + (size b + 2)) x0 (fines_join qa (size a) (size b + 2) xa.0 (fines_join qb (size b) 2 xb.0 xl))), subst (Reached ex g.first shape) (sym w) (inl z1))
    piece_fine (ever a b) p e k (l ∷ ls) h s f z v low high te tk r = absurd f.0
    piece_fine (ever a b) p e k [] h s f z v low high te tk r =
        let qb = p + size a in
        let qt = qb + size b in
        let past = qt + 2 in
        let w : p + (size a + (size b + 2)) ≡ past = omega arith in
        let z1 = subst (λ p. shape p ≡ []) w z in
        let v1 = subst (λ p. back_of c.instrs p ≡ None) w v in
        let te1 = target_from (p + (size a + (size b + 2))) past e (omega arith) te in
        let tk1 = target_from (p + (size a + (size b + 2))) past k (omega arith) tk in
        let freet = free_at c.instrs qt _ h.2 refl in
        let mb = begins b qb e k [] h.1 s.1 f.3 (s.2.0 ∙ sym f.4) freet (omega (arith, te1.past)) (omega (arith, tk1.past)) in
        let ma = begins a p past qb [] h.0 s.0 f.1 (mb.0 ∙ sym f.2) mb.1 (omega arith) (omega arith) in
        let tpast : Target qb past = record { past = omega arith; inside = omega arith; empty = z1; free = v1 } in
        let tnext : Target qb qb = record { past = omega arith; inside = omega arith; empty = mb.0; free = mb.1 } in
        let xa = piece_fine a p past qb [] h.0 s.0 f.1 (mb.0 ∙ sym f.2) mb.1 low (omega arith) tpast tnext r in
        let xb = piece_fine b qb e k [] h.1 s.1 f.3 (s.2.0 ∙ sym f.4) freet (omega arith) (omega arith) (target_from past qt e (omega arith) te1) (target_from past qt k (omega arith) tk1) (inl mb.0) in
        let xl = turns_fine qt p h.2 h.3 s.2 s.3 (omega arith) low ma.1 ma.0 (omega arith) in
        (fines_join p (size a) (size b + 2) xa.0 (fines_join qb (size b) 2 xb.0 xl), subst (Reached ex g.first shape) (sym w) (inl z1))
    piece_fine out p e k ls h s f z v low high te tk r = (fines_one p (fine_jumps p e ls (jump_leads p e ls h s (omega (arith, te.past)) te.inside te.free) (te.empty ∙ empty_is ls f) te.inside r), inl z)
    piece_fine next p e k ls h s f z v low high te tk r = (fines_one p (fine_jumps p k ls (jump_leads p k ls h s (omega (arith, tk.past)) tk.inside tk.free) (tk.empty ∙ empty_is ls f) tk.inside r), inl z)
    piece_fine gives p e k ls h s f z v low high te tk r = (fines_one p (fine_ends p (leads_by p ls Return _ h refl s (ap (λ a. end_exit (answer_found a ls)) ag.answer ∙ ap end_exit f)) r), inl z)
    piece_fine leaves p e k ls h s f z v low high te tk r = (fines_one p (fine_ends p (leads_by p ls ReturnVoid _ h refl s (ap (λ a. end_exit (is_nothing a)) ag.answer ∙ ap end_exit f)) r), inl z)
