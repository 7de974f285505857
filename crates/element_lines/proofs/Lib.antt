mod StepLaws
mod MadeLaws
mod LineLaws
mod Worked
