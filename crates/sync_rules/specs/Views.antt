-- Slots over a store of terms, as slots with trees.
use Rattle.std.specs.Prelude.{List, map}
use Rattle.std.specs.List.{AllByRecursion}
use Rattle.sync_terms.specs.Stored.{Stored}
use Rattle.sync_machine.specs.Views.{key_tree, pattern_tree, HasKeyId, HasPatternId}
use Rattle.sync_rules.specs.declared.slots.Slot.{Slot}
use Rattle.sync_rules.specs.Slots.{SlotTree}

abbrev pub slot_tree : Stored → Slot → SlotTree
slot_tree s x = record { role = x.role; field = x.field; key = key_tree s x.key; value = pattern_tree s x.value; line = x.line }

abbrev pub slots_tree : Stored → List Slot → List SlotTree
slots_tree s xs = map (slot_tree s) xs

-- the ids of a slot are of the store
abbrev pub HasSlotIds : Stored → Slot → Type 0
HasSlotIds s x = HasKeyId s x.key × HasPatternId s x.value

abbrev pub HaveSlotIds : Stored → List Slot → Type 0
HaveSlotIds s xs = AllByRecursion (HasSlotIds s) xs
