mod StepLaws
mod NameLaws
mod WritableLaws
mod StandLaws
mod LaneLaws
mod DrillLaws
mod PhaseLaws
mod SizeLaws
