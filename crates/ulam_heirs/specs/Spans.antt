-- Where in a line of classes the functions of a virtual name stand.
use Rattle.std.specs.Prelude.{ℕ, ◌≡◌, ◌+◌, ◌<◌, List, [], ◌∷◌, length, take, drop, Option, Some, None, Bool, false, ◌&&◌, if◌then◌else◌, bytes_eq, nat_lt}
use Rattle.std.specs.Borrow.{Bor}
use Rattle.std.specs.List.{list_any}
use Rattle.std.specs.Map.{lookup}
use Rattle.ulam_tree.specs.Raw.{Member}
use Rattle.ulam_heirs.specs.declared.spans.Span.{Span}
use Rattle.ulam_heirs.specs.Lines.{Heir}
use Rattle.ulam_heirs.specs.Flat.{is_function, is_named, has_word, declares, is_virtual_name}

-- the span of a name
abbrev pub span_by : List ℕ → List (Bor (List ℕ) × Span) → Option Span
span_by name entries = lookup (λ (k : Bor (List ℕ)). bytes_eq name k.now) entries

-- with one more function of the name in class i
abbrev pub longer_span : Option Span → Bool → ℕ → Option Span
longer_span (Some s) word i = Some (record { first = s.first; last = i })
longer_span None word i = if word then Some (record { first = i; last = i }) else None

-- with one more member of class i
abbrev pub member_span : Heir → ℕ → List ℕ → Member → Option Span → Option Span
member_span h i name m s = if is_function m && is_named name m then longer_span s (has_word h m) i else s

abbrev pub members_span : Heir → ℕ → List ℕ → List Member → Option Span → Option Span
members_span h i name [] s = s
members_span h i name (m ∷ ms) s = members_span h i name ms (member_span h i name m s)

-- A name without a span is not virtual. One with a span is virtual behind the first class of the span, and is declared again
-- before the last.
abbrev pub IsSpan : List Heir → List ℕ → Option Span → Type 0
IsSpan line name None = is_virtual_name line name ≡ false
IsSpan line name (Some s) =
    ((i : ℕ) → is_virtual_name (take i line) name ≡ nat_lt s.first i) × ((i : ℕ) → list_any (declares name) (drop (i + 1) line) ≡ nat_lt i s.last) × (s.first < length line)

abbrev pub AreSpans : List (Bor (List ℕ) × Span) → List Heir → Type 0
AreSpans entries line = (name : List ℕ) → IsSpan line name (span_by name entries)

-- the spans that there are are right
abbrev pub AreKnown : List (Bor (List ℕ) × Span) → List Heir → Type 0
AreKnown entries line = (name : List ℕ) (s : Span) → span_by name entries ≡ Some s → IsSpan line name (Some s)
