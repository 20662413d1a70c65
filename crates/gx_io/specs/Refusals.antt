-- What a fault becomes where a file is read whole.
use Rattle.gx_io.specs.declared.fault.IoFault.{IoFault}
use Rattle.gx_io.specs.declared.fault.IoFault.TheVariants.{Failed, NoMemory}
use Rattle.gx_io.specs.declared.fault.WholeRefuse.{WholeRefuse}
use Rattle.gx_io.specs.declared.fault.WholeRefuse.TheVariants as refusals

-- the refusal of the same name
abbrev pub refusal_of : IoFault → WholeRefuse
refusal_of Failed = refusals.Failed
refusal_of NoMemory = refusals.NoMemory
