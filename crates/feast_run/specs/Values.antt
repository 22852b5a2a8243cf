-- The code's structs as values.
use Rattle.std.specs.Prelude.{length}
use Rattle.chain_text.specs.Chain.{IsChain}
use Rattle.chain_text.specs.Values.{chain_value}
use Rattle.element_set.specs.Sets.{set_value}
use Rattle.feast_run.specs.Elements.{ElementsValue, code_elements, source_elements}
use Rattle.feast_run.specs.Stages.{ReadyChainValue, ReadyValue, SettingDraft, SettingValue, a_chain, a_world, chain_draft, chain_with, ready_with, world_draft}
use Rattle.feast_run.specs.declared.elements.Elements.{Elements}
use Rattle.feast_run.specs.declared.elements.Elements.TheVariants.{Sources, Codes}
use Rattle.feast_run.specs.declared.settings.Draft.{Draft}
use Rattle.feast_run.specs.declared.settings.Draft.TheVariants.{World as WorldDraft, Chain as ChainDraft}
use Rattle.feast_run.specs.declared.settings.Setting.{Setting}
use Rattle.feast_run.specs.declared.settings.Setting.TheVariants.{World, Chain}
use Rattle.feast_run.specs.declared.worlds.Ready.{Ready}
use Rattle.feast_run.specs.declared.worlds.ReadyChain.{ReadyChain}
use Rattle.cell_grid.specs.Known.{BringsNone}
use Rattle.world_text.specs.Printed.{IsNamed}
use Rattle.world_text.specs.Values.{world_value}

abbrev pub elements_value : Elements → ElementsValue
elements_value (Sources set) = source_elements (set_value set)
elements_value (Codes set) = code_elements set

abbrev pub ready_value : Ready → ReadyValue
ready_value r = ready_with (world_value r.world) (elements_value r.elements)

-- the atoms of the world are of its elements, and these bring no others
pub record IsReady (r : Ready) : Type 0 where
  pub named : IsNamed (elements_value r.elements).names (world_value r.world)
  pub brings : BringsNone (length (elements_value r.elements).names) (elements_value r.elements).meaning

abbrev pub ready_chain_value : ReadyChain → ReadyChainValue
ready_chain_value r = chain_with (chain_value r.chain) (elements_value r.elements)

-- the chain is one of its elements, and these bring no others
pub record IsReadyChain (r : ReadyChain) : Type 0 where
  pub chain : IsChain (elements_value r.elements).names (chain_value r.chain)
  pub brings : BringsNone (length (elements_value r.elements).names) (elements_value r.elements).meaning

abbrev pub draft_value : Draft → SettingDraft
draft_value (WorldDraft d) = world_draft d
draft_value (ChainDraft d) = chain_draft d

abbrev pub setting_value : Setting → SettingValue
setting_value (World r) = a_world (ready_value r)
setting_value (Chain r) = a_chain (ready_chain_value r)

abbrev pub IsReadySetting : Setting → Type 0
IsReadySetting (World r) = IsReady r
IsReadySetting (Chain r) = IsReadyChain r
