-- A place in the reports of a chain's legs, sought one leg after another.
use Rattle.std.proofs.Common.{ℕ, ◌≡◌, ◌≤◌, ◌-◌, List, [], Ok, refl, sym, ap, subst, ◌∙◌, arith}
use Rattle.window_sites.specs.Window.{WindowValue}
use Rattle.cell_grid.specs.Grid.{GridValue}
use Rattle.chain_text.specs.Chain.{ChainValue}
use Rattle.chain_run.specs.Answers.{IsRewound}
use Rattle.chain_run.specs.Chains.{first_grid, making}
use Rattle.chain_run.specs.Places.{IsPlace, IsSought, Sought, place_past}
use Rattle.chain_run.specs.Reader.{Begins, Follows, IsKnownBetween, IsTaken, LegValue, ReaderValue, next_leg, said_by}
use Rattle.chain_run.specs.Reading.{LegSaid, read_chain}
use Rattle.chain_run.specs.Replays.{events_in, grid_at}
use Rattle.chain_run.specs.declared.rewinding.Place.{Place}
use Rattle.chain_run.specs.declared.rewinding.Rewound.TheVariants.{Atoms}
use Rattle.chain_run.proofs.Follows.{follow_end, follow_read, read_one}
use Rattle.chain_run.proofs.Onward.{sought_on}
use Rattle.chain_run.proofs.Replayed.{begun, gone_on}

-- what a rewind of a chain comes to, whose reports say this
abbrev pub sought_in : ChainValue → (WindowValue → ℕ → WindowValue) → ℕ → List LegSaid → Sought
sought_in c meaning left said = record { answer = grid_at (making c meaning) c.first (first_grid c) said left; missing = left - events_in said }

-- it is to be found from this place on
abbrev pub IsSoughtOn : ChainValue → (WindowValue → ℕ → WindowValue) → ℕ → ReaderValue → Place → List LegSaid → List LegSaid → Type 0
IsSoughtOn c meaning left r place ls said = IsSought (making c meaning) (next_leg r) place ls (sought_in c meaning left said)

-- before the first leg
abbrev pub place_first : GridValue → ℕ → Place
place_first g left = record { grid = g; left = left }

pub is_first : (names : List (List ℕ)) (c : ChainValue) (meaning : WindowValue → ℕ → WindowValue) (g : GridValue) (left : ℕ) → IsKnownBetween names c meaning g → IsPlace names c meaning (place_first g left)
is_first names c meaning g left known = record { named = known.between.named; known = λ some. known }

pub place_of : (names : List (List ℕ)) (c d : ChainValue) (meaning : WindowValue → ℕ → WindowValue) (p : Place) → c ≡ d → IsPlace names c meaning p → IsPlace names d meaning p
place_of names c d meaning p chain is = subst (λ (x : ChainValue). IsPlace names x meaning p) chain is

module _ (c : ChainValue) (meaning : WindowValue → ℕ → WindowValue) (bytes : List ℕ) (left : ℕ) where
  pub sought_first : (r : ReaderValue) (g : GridValue) → Begins c bytes (Ok r) → g ≡ first_grid c → Follows (said_by r) (read_chain c bytes) (IsSoughtOn c meaning left r (place_first g left))
  sought_first r g h is = begun c bytes r (IsSoughtOn c meaning left r (place_first g left)) h (λ ls. ((λ i. grid_at (making c meaning) (sym h.1 i) (sym is i) ls left), refl))

  pub sought_more : (old new : ReaderValue) (l : LegValue) (now : WindowValue → ℕ → WindowValue) (p q : Place) → old.chain ≡ c → IsTaken old new l → now ≡ meaning → 1 ≤ p.left → q ≡ place_past (making l.chain now) l.number l.entries.records p
      → Follows (said_by old) (read_chain c bytes) (IsSoughtOn c meaning left old p) → Follows (said_by new) (read_chain c bytes) (IsSoughtOn c meaning left new q)
  sought_more old new l now p q of t meant some past rest =
      let chain = t.of_chain ∙ of in
      let here : q ≡ place_past (making c meaning) (next_leg old) l.entries.records p = past ∙ (λ i. place_past (making (chain i) (meant i)) (t.here i) l.entries.records p) in
      gone_on old new l (read_chain c bytes) (IsSoughtOn c meaning left old p) (IsSoughtOn c meaning left new q) t
      (λ ls said was. subst (λ k. IsSought (making c meaning) k q ls (sought_in c meaning left said)) (sym t.on) (sought_on (making c meaning) (next_leg old) (sought_in c meaning left said) t.said ls l p q t.is_said some here was)) rest

  module _ (said : List LegSaid) (read : read_chain c bytes ≡ Ok said) (enough : left ≤ events_in said) (r : ReaderValue) (p : Place) (rest : Follows (said_by r) (read_chain c bytes) (IsSoughtOn c meaning left r p)) where
    -- it is found where no event remains
    pub found : p.left ≡ 0 → IsRewound c meaning left (Atoms p.grid) said
    found none =
        let on = follow_read (said_by r) (read_chain c bytes) (IsSoughtOn c meaning left r p) said read rest in
        (enough, sym (on.1.0 ∙ ap (grid_at (making c meaning) (next_leg r) p.grid on.0) none))

    -- none remains behind the last leg
    pub none_left : said_by r ≡ Ok [] → p.left ≡ 0
    none_left over =
        let end = follow_end (said_by r) (read_chain c bytes) (IsSoughtOn c meaning left r p) over rest in
        let same : end.0 ≡ said = read_one (read_chain c bytes) end.0 said end.1 read in
        let missing = subst (λ (ls : List LegSaid). left - events_in ls ≡ p.left - events_in []) same end.2.1 in
        let none : events_in [] ≡ 0 = refl in
        omega (arith, missing, none, enough)
