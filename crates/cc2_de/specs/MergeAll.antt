-- What is said where configurations don't merge.
use Rattle.std.specs.Prelude.{List}
use Rattle.cc2_value.specs.MergeLaws.{NoneGives}
use Rattle.cc2_value.specs.declared.merge_fault.MergeAllFault.{MergeAllFault}
use Rattle.cc2_value.specs.declared.merge_fault.MergeAllFault.TheVariants as fault
use Rattle.cc2_de.specs.Config.{config_at}
use Rattle.cc2_de.specs.declared.config.Config.{Config}

-- no grouping of their merges gives a configuration, unless memory ran out
abbrev pub HasNoGrouping : List Config → MergeAllFault → Type 0
HasNoGrouping configs fault.Memory = Unit {0}
HasNoGrouping configs (fault.Mixed place e) = NoneGives config_at configs
