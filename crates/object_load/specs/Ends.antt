-- How the ends of the readers below end a load.
use Rattle.btf_types.specs.declared.bad_btf.BtfEnd.{BtfEnd}
use Rattle.btf_types.specs.declared.bad_btf.BtfEnd.TheVariants as btf
use Rattle.elf_objects.specs.declared.bad_elf.ObjectEnd.{ObjectEnd}
use Rattle.elf_objects.specs.declared.bad_elf.ObjectEnd.TheVariants as object
use Rattle.run_config.specs.declared.named_map.MapsEnd.{MapsEnd}
use Rattle.run_config.specs.declared.named_map.MapsEnd.TheVariants as maps
use Rattle.object_load.specs.declared.refusal.LoadEnd.{LoadEnd}
use Rattle.object_load.specs.declared.refusal.LoadEnd.TheVariants.{Refused, OutOfMemory}
use Rattle.object_load.specs.declared.refusal.LoadRefusal.TheVariants.{BadElf, BadBtf, BadMap}

abbrev pub object_end : ObjectEnd → LoadEnd
object_end (object.BadElf bad) = Refused (BadElf bad)
object_end object.OutOfMemory = OutOfMemory

abbrev pub btf_end : BtfEnd → LoadEnd
btf_end (btf.BadBtf bad) = Refused (BadBtf bad)
btf_end btf.OutOfMemory = OutOfMemory

abbrev pub maps_end : MapsEnd → LoadEnd
maps_end (maps.BadMap index rule) = Refused (BadMap index rule)
maps_end maps.OutOfMemory = OutOfMemory
