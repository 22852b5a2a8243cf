-- The stages of a code file.
use Rattle.std.proofs.Common.{ℕ, ◌≡◌, List, Option, Some, Ok, Err, Result, ap, subst, sym, ◌∙◌, inr}
use Rattle.code_file.proofs.FileLaws.{reads_one}
use Rattle.code_file.proofs.Rightness.{read_right, written_reads}
use Rattle.code_file.specs.Form.{CodesValue, IsSayable}
use Rattle.code_file.specs.Judging.{Reads, Tells as TellsCodes}
use Rattle.code_file.specs.declared.fault.CodeFault.{CodeFault}
use Rattle.code_file.specs.declared.fault.CodeFault.TheVariants.{BadMagic, BadForm, NotValid, SameName, NoMemory as no_memory}
use Rattle.element_set.specs.Sets.{Coded}
use Rattle.feast_base.specs.Outside.{File}
use Rattle.feast_base.proofs.Stages.{went}
use Rattle.feast_run.proofs.Laws.{sure_by}
use Rattle.feast_run.specs.CodeFiles.{IsCodeRefused, code_refused, codes_from, codes_in}
use Rattle.feast_run.specs.Faults.{IsCodeHalt, IsHalt}
use Rattle.feast_base.specs.Stages.{IsOne}
use Rattle.feast_run.specs.Halting.{IsRefusal, RefusedValue}
use Rattle.feast_run.specs.Told.{IsCodeFile}
use Rattle.feast_run.specs.Tellings.{Tells}
use Rattle.feast_run.specs.declared.halt.Halt.{Halt}
use Rattle.feast_run.specs.declared.halt.Halt.TheVariants.{Refused, Missing, NoMemory}

-- bytes that are refused
halts_by : {X : Type 0} (value : X → CodesValue) (word bytes : List ℕ) (fault : CodeFault) (code column : ℕ) (halt : Halt) → Reads bytes (Err fault) → ((r : RefusedValue) → r ≡ code_refused word code column → IsCodeRefused word fault r) →
    IsHalt (code_refused word code column) halt → Tells value (codes_in word bytes) (Err halt)
halts_by value word bytes fault code column (Refused s) reads by is = ((fault, reads, by _ is.0), subst Coded (sym (ap (λ (v : RefusedValue). v.refusal.code) is.0)) is.1)
halts_by value word bytes fault code column (Missing v) reads by is = absurd is
halts_by value word bytes fault code column NoMemory reads by is = absurd is

pub codes_halt : {X : Type 0} (value : X → CodesValue) (word bytes : List ℕ) (fault : CodeFault) (halt : Halt) → TellsCodes bytes (Err fault) → IsCodeHalt word fault halt → Tells value (codes_in word bytes) (Err halt)
codes_halt value word bytes BadMagic halt t is = halts_by value word bytes BadMagic 61 1 halt t (λ r e. e) is
codes_halt value word bytes (BadForm column) halt t is = halts_by value word bytes (BadForm column) 62 column halt t (λ r e. e) is
codes_halt value word bytes (NotValid column) halt t is = halts_by value word bytes (NotValid column) 63 column halt t (λ r e. e) is
codes_halt value word bytes (SameName column) halt t is = halts_by value word bytes (SameName column) 64 column halt t (λ r e. e) is
codes_halt value word bytes no_memory (Refused s) t is = absurd is
codes_halt value word bytes no_memory (Missing v) t is = absurd is
codes_halt value word bytes no_memory NoMemory t is = tt

-- bytes have one reading
refused_one : (word : List ℕ) (fault : CodeFault) (r s : RefusedValue) → IsCodeRefused word fault r → IsCodeRefused word fault s → r ≡ s
refused_one word BadMagic r s p q = p ∙ sym q
refused_one word (BadForm column) r s p q = p ∙ sym q
refused_one word (NotValid column) r s p q = p ∙ sym q
refused_one word (SameName column) r s p q = p ∙ sym q
refused_one word no_memory r s p q = absurd p

abbrev read : CodesValue → Result CodesValue CodeFault
read es = Ok es

abbrev faulty : CodeFault → Result CodesValue CodeFault
faulty fault = Err fault

pub codes_in_one : (word bytes : List ℕ) → IsOne IsRefusal (codes_in word bytes)
codes_in_one word bytes = record {
  sure = sure_by (codes_in word bytes)
      (λ es r p q. let e : read es ≡ faulty q.0 = reads_one bytes (Ok es) (Err q.0) p q.1 in absurd cc)
      (λ r s p q.
      let e : faulty p.0 ≡ faulty q.0 = reads_one bytes (Err p.0) (Err q.0) p.1 q.1 in
      let same : p.0 ≡ q.0 = cc in
      refused_one word q.0 r s (subst (λ (f : CodeFault). IsCodeRefused word f r) same p.2) q.2);
  one_value = λ a b p q. let e : read a ≡ read b = reads_one bytes (Ok a) (Ok b) p q in cc;
}

-- what was read is a code file
pub codes_said : (files : Option (List File)) (word : List ℕ) (es : CodesValue) → codes_from files word (Ok es) → IsSayable es
codes_said files word es h = let l = went _ _ es h in (read_right l.value es l.rest).0.0

pub codes_are : (files : List File) (word : List ℕ) (es : CodesValue) → codes_from (Some files) word (Ok es) → IsCodeFile files word es
codes_are files word es h =
    let l = went _ _ es h in
    let r = read_right l.value es l.rest in
    record { bytes = l.value; file = l.passed.0; within = l.passed.1; is_file = r.0; right = r.1 }

-- and a code file is read
pub codes_pass : (files : List File) (word : List ℕ) (es : CodesValue) → IsCodeFile files word es → codes_from (Some files) word (Ok es)
codes_pass files word es h =
    let reads = subst (λ (bytes : List ℕ). Reads bytes (Ok es)) (sym h.is_file.1) (written_reads es h.is_file.0 h.right) in
    inr (record { value = h.bytes; passed = (h.file, h.within); rest = reads })
